-- The forms of words: each is one, and what the program finds in the words is it.
use Rattle.std.proofs.Common.{◌≡◌, ℕ, ◌≤◌, List, [], ◌∷◌, ◌++◌, length, true, false, Option, Some, None, MatchOption, Result, Ok, slice_get, get_or, drop, unwrap_or, codes, subst, refl, sym, ap, ◌∙◌, arith}
use Rattle.std.specs.Char.{is_ascii_digit}
use Rattle.std.specs.List.{list_all}
use Rattle.std.specs.Str.{all_ascii_digits}
use Rattle.std.proofs.lemmas.Bool.{and_parts, and_from}
use Rattle.std.proofs.lemmas.List.{append_cancel_left}
use Rattle.std.specs.Str.Parse.{ParsesUnsigned, digits_value}
use Rattle.std.proofs.lemmas.Str.Parse.{IsNumeralModel, numerals_by_value, tells_all_ascii_digits, parse_gives, digits_value_short}
use Rattle.dl_names.specs.NameList.{Text}
use Rattle.dl_run.specs.Words.{Form, answer, run, gen, IsNumber, AreWords, IsCommand, HasForm, HasNoForm, is_positional, default_limit, default_shards, max_limit, max_shards, max_number, max_size}
use Rattle.dl_run.proofs.OptionLemmas.{AreWords-unique, same_number}

-- ---- numbers

own : IsNumeralModel (λ ds. all_ascii_digits ds ≡ true) (digits_value 10)
own = numerals_by_value _ tells_all_ascii_digits

digits_all : (word : Text) → list_all is_ascii_digit word ≡ true → all_ascii_digits word ≡ true
digits_all [] h = refl
digits_all (b ∷ word) h =
    let parts = and_parts (is_ascii_digit b) (list_all is_ascii_digit word) h in
    and_from _ _ parts.0 (digits_all word parts.1)

-- at most ten digits are read as a number
pub number_read : {E : Type 0} (word : Text) (r : Result ℕ E) → ParsesUnsigned 64 10 word r → list_all is_ascii_digit word ≡ true → 1 ≤ length word → length word ≤ 10
    → r ≡ Ok (digits_value 10 word)
number_read word r reads digits some few =
    let all = digits_all word digits in
    parse_gives own 64 word r reads all (omega (arith, some)) (omega (arith, digits_value_short own word 10 all few))

-- ---- an option and its number in one word

pub joined_read : (word option behind digits : Text) (most : ℕ) (r : Option ℕ) → word ≡ option ++ behind → behind ≡ 61 ∷ digits
    → MatchOption r ((number : ℕ) → IsNumber digits 1 most number → ⊥) (IsNumber digits 1 most)
    → MatchOption r ((digits : Text) (number : ℕ) → word ≡ option ++ 61 ∷ digits → IsNumber digits 1 most number → ⊥)
    (λ number. (digits : Text) × (word ≡ option ++ 61 ∷ digits) × IsNumber digits 1 most number)
joined_read word option behind digits most None front back none = λ others number is spelled.
    let tails : 61 ∷ digits ≡ 61 ∷ others = sym back ∙ append_cancel_left option behind (61 ∷ others) (sym front ∙ is) in
    none number (subst (λ d. IsNumber d 1 most number) (sym (ap (drop 1) tails)) spelled)
joined_read word option behind digits most (Some n) front back spelled = (digits, front ∙ ap (λ l. option ++ l) back, spelled)

-- ---- three words

pub three_from : (xs : List Text) (a b c : Text) → length xs ≡ 3 → slice_get xs 0 ≡ Some a → slice_get xs 1 ≡ Some b → slice_get xs 2 ≡ Some c
    → xs ≡ a ∷ b ∷ c ∷ []
three_from [] a b c n _ _ _ = absurd (omega arith)
three_from (x ∷ []) a b c n _ _ _ = absurd (omega arith)
three_from (x ∷ y ∷ []) a b c n _ _ _ = absurd (omega arith)
three_from (x ∷ y ∷ z ∷ []) a b c n one two three = cc
three_from (x ∷ y ∷ z ∷ v ∷ rest) a b c n _ _ _ = absurd (omega arith)

-- ---- one form

IsCommand-unique : {command name : Text} {default most : ℕ} (dash : (word : Text) → is_positional (name ++ word) ≡ false) {words files others : List Text}
    {n m : ℕ} → IsCommand command name default most words files n → IsCommand command name default most words others m → (files ≡ others) × (n ≡ m)
IsCommand-unique {command} {name} {default} {most} dash {words} {files} {others} one two =
    let rest : one.rest ≡ two.rest = ap (drop 1) (sym one.is ∙ two.is) in
    let same = AreWords-unique name most dash two.rest (subst (λ l. AreWords name most l files one.given) rest one.are) two.are in
    (same.0, one.number_is ∙ ap (λ g. unwrap_or g default) same.1 ∙ sym two.number_is)

-- words that begin with different letters are different
abbrev first_byte : List Text → ℕ
first_byte words = get_or (get_or words 0 []) 0 0

-- words have one form at most
pub form_unique : (words : List Text) (form other : Form) → HasForm words form → HasForm words other → form ≡ other
form_unique words (answer o d q l) (answer o' d' q' l') one two =
    let same = IsCommand-unique (λ _. refl) one two in
    let a : o ≡ o' = ap (λ l. get_or l 0 []) same.0 in
    let b : d ≡ d' = ap (λ l. get_or l 1 []) same.0 in
    let c : q ≡ q' = ap (λ l. get_or l 2 []) same.0 in
    λ i. answer (a i) (b i) (c i) (same.1 i)
form_unique words (answer o d q l) (run o' d' s' n') one two = absurd (let e : 97 ≡ 114 = ap first_byte (sym one.is ∙ two.is) in omega (arith, e))
form_unique words (answer o d q l) (gen n' s') one two = absurd (let e : 97 ≡ 103 = ap first_byte (sym one.is ∙ two.is) in omega (arith, e))
form_unique words (run o d s n) (answer o' d' q' l') one two = absurd (let e : 114 ≡ 97 = ap first_byte (sym one.is ∙ two.is) in omega (arith, e))
form_unique words (run o d s n) (run o' d' s' n') one two =
    let same = IsCommand-unique (λ _. refl) one two in
    let a : o ≡ o' = ap (λ l. get_or l 0 []) same.0 in
    let b : d ≡ d' = ap (λ l. get_or l 1 []) same.0 in
    let c : s ≡ s' = ap (λ l. get_or l 2 []) same.0 in
    λ i. run (a i) (b i) (c i) (same.1 i)
form_unique words (run o d s n) (gen n' s') one two = absurd (let e : 114 ≡ 103 = ap first_byte (sym one.is ∙ two.is) in omega (arith, e))
form_unique words (gen n s) (answer o' d' q' l') one two = absurd (let e : 103 ≡ 97 = ap first_byte (sym one.is ∙ two.is) in omega (arith, e))
form_unique words (gen n s) (run o' d' s' n') one two = absurd (let e : 103 ≡ 114 = ap first_byte (sym one.is ∙ two.is) in omega (arith, e))
form_unique words (gen n s) (gen n' s') one two =
    let both = sym one.is ∙ two.is in
    let a : one.number_word ≡ two.number_word = ap (λ l. get_or l 1 []) both in
    let b : one.size_word ≡ two.size_word = ap (λ l. get_or l 2 []) both in
    λ i. gen (same_number a one.is_number two.is_number i) (same_number b one.is_size two.is_size i)

-- ---- no form

-- words that have no form with files and an option behind their command have none
pub no_answer : (rest : List Text) → ((files : List Text) (given : Option ℕ) → AreWords (codes "--limit") max_limit rest files given → length files ≡ 3 → ⊥)
    → HasNoForm (codes "answer" ∷ rest)
no_answer rest none (answer o d q l) h =
    let same : h.rest ≡ rest = sym (ap (drop 1) h.is) in
    none (o ∷ d ∷ q ∷ []) h.given (subst (λ r. AreWords (codes "--limit") max_limit r (o ∷ d ∷ q ∷ []) h.given) same h.are) refl
no_answer rest none (run o d s n) h = absurd (let e : 97 ≡ 114 = ap first_byte h.is in omega (arith, e))
no_answer rest none (gen n s) h = absurd (let e : 97 ≡ 103 = ap first_byte h.is in omega (arith, e))

pub no_run : (rest : List Text) → ((files : List Text) (given : Option ℕ) → AreWords (codes "--shards") max_shards rest files given → length files ≡ 3 → ⊥)
    → HasNoForm (codes "run" ∷ rest)
no_run rest none (answer o d q l) h = absurd (let e : 114 ≡ 97 = ap first_byte h.is in omega (arith, e))
no_run rest none (run o d s n) h =
    let same : h.rest ≡ rest = sym (ap (drop 1) h.is) in
    none (o ∷ d ∷ s ∷ []) h.given (subst (λ r. AreWords (codes "--shards") max_shards r (o ∷ d ∷ s ∷ []) h.given) same h.are) refl
no_run rest none (gen n s) h = absurd (let e : 114 ≡ 103 = ap first_byte h.is in omega (arith, e))

pub no_gen : (rest : List Text) → ((number size : Text) (n s : ℕ) → rest ≡ number ∷ size ∷ [] → IsNumber number 0 max_number n → IsNumber size 1 max_size s → ⊥)
    → HasNoForm (codes "gen" ∷ rest)
no_gen rest none (answer o d q l) h = absurd (let e : 103 ≡ 97 = ap first_byte h.is in omega (arith, e))
no_gen rest none (run o d s n) h = absurd (let e : 103 ≡ 114 = ap first_byte h.is in omega (arith, e))
no_gen rest none (gen n s) h =
    none h.number_word h.size_word n s (ap (drop 1) h.is) h.is_number h.is_size

pub no_command : (command : Text) (rest : List Text) → (command ≡ codes "answer" → ⊥) → (command ≡ codes "run" → ⊥) → (command ≡ codes "gen" → ⊥)
    → HasNoForm (command ∷ rest)
no_command command rest a r g (answer o d q l) h = a (ap (λ l. get_or l 0 []) h.is)
no_command command rest a r g (run o d s n) h = r (ap (λ l. get_or l 0 []) h.is)
no_command command rest a r g (gen n s) h = g (ap (λ l. get_or l 0 []) h.is)

pub no_words : HasNoForm []
no_words (answer o d q l) h = absurd (omega (arith, ap length h.is))
no_words (run o d s n) h = absurd (omega (arith, ap length h.is))
no_words (gen n s) h = absurd (omega (arith, ap length h.is))

-- ---- the form that is found

pub answer_form : (rest : List Text) (o d q : Text) (given : Option ℕ) (limit : ℕ) → AreWords (codes "--limit") max_limit rest (o ∷ d ∷ q ∷ []) given
    → limit ≡ unwrap_or given default_limit → HasForm (codes "answer" ∷ rest) (answer o d q limit)
answer_form rest o d q given limit are is = record { rest = rest; given = given; is = refl; are = are; number_is = is }

pub run_form : (rest : List Text) (o d s : Text) (given : Option ℕ) (shards : ℕ) → AreWords (codes "--shards") max_shards rest (o ∷ d ∷ s ∷ []) given
    → shards ≡ unwrap_or given default_shards → HasForm (codes "run" ∷ rest) (run o d s shards)
run_form rest o d s given shards are is = record { rest = rest; given = given; is = refl; are = are; number_is = is }
