-- Which tokens stand at an offset, by the byte that stands there.
use Rattle.std.proofs.Common.{◌≡◌, ◌≢◌, ℕ, ◌+◌, ◌<◌, ◌≤◌, ◌⊎◌, inl, inr, true, false, cond, eqb, Option, Some, None, MatchOption, List, [], ◌∷◌, length, get_or, drop, refl, sym, ap, ◌∙◌, subst, arith}
use Rattle.std.specs.List.{All, slice_range}
use Rattle.std.specs.Option.{option_map}
use Rattle.std.proofs.Math.Utf8.{encodes}
use Rattle.std.proofs.lemmas.Bool.{cases_lt}
use Rattle.std.proofs.lemmas.Bool.Decides.{nat_tests}
use Rattle.std.proofs.lemmas.List.{get_or-drop}
use Rattle.std.proofs.lemmas.List.Elements.{All-head}
use Rattle.std.proofs.lemmas.Option.{slice_get_within, slice_get-get_or, get_or_from_slice_get}
use Rattle.dl_lex.specs.declared.token.TokenKind.{TokenKind}
use Rattle.dl_lex.specs.declared.token.TokenKind.TheVariants.{Open, Close, Equals, Caret, Iri, Text, Lang, Node, Short, Number, Word, End}
use Rattle.dl_lex.specs.Characters.{StandsAt, IsLongestRun, is_run_character, is_comment_character}
use Rattle.dl_lex.specs.Grammar.{is_white_space, Skips, nothing, white_space, comment, IsIri, IsText, IsLang, is_node, has_colon, is_number, IsRunText, node, short, number, word, IsRun, IsTokenAt}
use Rattle.dl_lex.specs.Keywords.{keyword_text, NoKeyword}
use Rattle.dl_lex.specs.declared.keyword.Keyword.{Keyword}
use Rattle.dl_lex.specs.Scanning.{NoTokenAt, SkipsOne, IsRunByte, NoRunText}
use Rattle.dl_lex.proofs.Standing.{ascii_character}
use Rattle.dl_lex.proofs.Runs.{first_stands}

-- neither white space nor a comment begins
pub skip_nothing : (bytes : List ℕ) (i : ℕ) → i ≤ length bytes → (i < length bytes → (is_white_space (get_or bytes i 0) ≡ false) × (get_or bytes i 0 ≢ 35)) → Skips bytes i i
skip_nothing bytes i h other = nothing i h (λ c e.
    let here : get_or bytes i 0 ≡ c = get_or_from_slice_get bytes i c 0 e in
    subst (λ b. (is_white_space b ≡ false) × (b ≢ 35)) here (other (slice_get_within bytes i c e)))

pub skip_white_space : (bytes : List ℕ) (i : ℕ) → i < length bytes → is_white_space (get_or bytes i 0) ≡ true → SkipsOne bytes i (i + 1)
skip_white_space bytes i h white = record {
  moves = omega arith;
  in_range = omega arith;
  goes_on = λ k s. white_space i k (get_or bytes i 0) (slice_get-get_or bytes i 0 h) white s;
}

pub skip_comment : (bytes : List ℕ) (i j : ℕ) → i < length bytes → get_or bytes i 0 ≡ 35 → IsLongestRun is_comment_character bytes (i + 1) j → SkipsOne bytes i j
skip_comment bytes i j h hash run =
    let ends = run.run.stand.ends in
    record {
      moves = omega arith;
      in_range = run.run.stand.in_range;
      goes_on = λ k s. comment i j k (slice_get-get_or bytes i 0 h ∙ ap (λ (b : ℕ). Some b) hash) run s;
    }

-- the first byte of a text that stands at an offset
pub stands_byte : (bytes : List ℕ) (i j b : ℕ) (rest : List ℕ) → StandsAt bytes i (b ∷ rest) j → get_or bytes i 0 ≡ b
stands_byte bytes i j b rest s = (let at : get_or (drop i bytes) 0 0 ≡ get_or bytes i 0 = get_or-drop i bytes 0 0 ∙ ap (λ k. get_or bytes k 0) (omega arith) in sym at ∙ ap (λ t. get_or t 0 0) s.is)

-- the forms of tokens, by the byte that begins them
abbrev pub form : TokenKind → ℕ
form Open = 0
form Close = 1
form Equals = 2
form Caret = 3
form Iri = 4
form Text = 5
form Lang = 6
form Node = 7
form Short = 7
form Number = 7
form (Word keyword) = 7
form End = 8

abbrev pub byte_form : ℕ → ℕ
byte_form b = cond (eqb b 40) 0 (cond (eqb b 41) 1 (cond (eqb b 61) 2 (cond (eqb b 94) 3 (cond (eqb b 60) 4 (cond (eqb b 34) 5 (cond (eqb b 64) 6 7))))))

wide_form : (b : ℕ) → 128 ≤ b → byte_form b ≡ 7
wide_form b wide = grind (arith, nat_tests)

run_form : (b : ℕ) → is_run_character b ≡ true → byte_form b ≡ 7
run_form b admitted = grind (arith, nat_tests)

first_form : (bytes : List ℕ) (i j : ℕ) (cs : List ℕ) → i < j → i < length bytes → All (λ c. is_run_character c ≡ true) cs → StandsAt bytes i (encodes cs) j → (get_or bytes i 0 < 128) ⊎ (128 ≤ get_or bytes i 0) → byte_form (get_or bytes i 0) ≡ 7
first_form bytes i j [] some h admitted s size = absurd (let e = s.ends in omega arith)
first_form bytes i j (c ∷ cs) some h admitted s (inr wide) = wide_form (get_or bytes i 0) wide
first_form bytes i j (c ∷ cs) some h admitted s (inl low) =
    let first = first_stands bytes i j c (encodes cs) s in
    let same = ascii_character bytes i _ c first.0 h low in
    run_form (get_or bytes i 0) (subst (λ b. is_run_character b ≡ true) same (All-head (λ c. is_run_character c ≡ true) c cs admitted))

run_byte_form : (bytes : List ℕ) (kind : TokenKind) (i j : ℕ) → IsRun bytes kind i j → i < length bytes → byte_form (get_or bytes i 0) ≡ 7
run_byte_form bytes kind i j r h = first_form bytes i j r.run.run.characters r.some h r.run.run.admitted r.run.run.stand (cases_lt (get_or bytes i 0) 128)

-- the byte tells the form
pub form_of_token : (bytes : List ℕ) (kind : TokenKind) (i j : ℕ) → IsTokenAt bytes kind i j → i < length bytes → form kind ≡ byte_form (get_or bytes i 0)
form_of_token bytes Open i j t h = sym (ap byte_form (stands_byte bytes i j 40 [] t))
form_of_token bytes Close i j t h = sym (ap byte_form (stands_byte bytes i j 41 [] t))
form_of_token bytes Equals i j t h = sym (ap byte_form (stands_byte bytes i j 61 [] t))
form_of_token bytes Caret i j t h = sym (ap byte_form (stands_byte bytes i j 94 (94 ∷ []) t))
form_of_token bytes Iri i j t h = sym (ap byte_form (stands_byte bytes i (i + 1) 60 [] t.opens))
form_of_token bytes Text i j t h = sym (ap byte_form (stands_byte bytes i (i + 1) 34 [] t.opens))
form_of_token bytes Lang i j t h = sym (ap byte_form (stands_byte bytes i (i + 1) 64 [] t.opens))
form_of_token bytes Node i j t h = sym (run_byte_form bytes Node i j t h)
form_of_token bytes Short i j t h = sym (run_byte_form bytes Short i j t h)
form_of_token bytes Number i j t h = sym (run_byte_form bytes Number i j t h)
form_of_token bytes (Word keyword) i j t h = sym (run_byte_form bytes (Word keyword) i j t h)
form_of_token bytes End i j t h = absurd (let e = t.0 in omega arith)

-- a token of the form of runs is a run
pub as_run : (bytes : List ℕ) (kind : TokenKind) (i j : ℕ) → IsTokenAt bytes kind i j → form kind ≡ 7 → IsRun bytes kind i j
as_run bytes Node i j t e = t
as_run bytes Short i j t e = t
as_run bytes Number i j t e = t
as_run bytes (Word keyword) i j t e = t
as_run bytes kind i j t e = absurd (omega arith)

only_caret : (bytes : List ℕ) (i : ℕ) → ((j : ℕ) → IsTokenAt bytes Caret i j → ⊥) → (kind : TokenKind) (j : ℕ) → IsTokenAt bytes kind i j → form kind ≡ 3 → ⊥
only_caret bytes i none Caret j t e = none j t
only_caret bytes i none kind j t e = absurd (omega arith)

only_iri : (bytes : List ℕ) (i : ℕ) → ((j : ℕ) → IsIri bytes i j → ⊥) → (kind : TokenKind) (j : ℕ) → IsTokenAt bytes kind i j → form kind ≡ 4 → ⊥
only_iri bytes i none Iri j t e = none j t
only_iri bytes i none kind j t e = absurd (omega arith)

only_text : (bytes : List ℕ) (i : ℕ) → ((j : ℕ) → IsText bytes i j → ⊥) → (kind : TokenKind) (j : ℕ) → IsTokenAt bytes kind i j → form kind ≡ 5 → ⊥
only_text bytes i none Text j t e = none j t
only_text bytes i none kind j t e = absurd (omega arith)

only_lang : (bytes : List ℕ) (i : ℕ) → ((j : ℕ) → IsLang bytes i j → ⊥) → (kind : TokenKind) (j : ℕ) → IsTokenAt bytes kind i j → form kind ≡ 6 → ⊥
only_lang bytes i none Lang j t e = none j t
only_lang bytes i none kind j t e = absurd (omega arith)

-- no token begins with a byte where none of its form does
pub no_caret : (bytes : List ℕ) (i : ℕ) → i < length bytes → get_or bytes i 0 ≡ 94 → ((j : ℕ) → IsTokenAt bytes Caret i j → ⊥) → NoTokenAt bytes i
no_caret bytes i h byte none kind j t = only_caret bytes i none kind j t (form_of_token bytes kind i j t h ∙ ap byte_form byte)

pub no_iri : (bytes : List ℕ) (i : ℕ) → i < length bytes → get_or bytes i 0 ≡ 60 → ((j : ℕ) → IsIri bytes i j → ⊥) → NoTokenAt bytes i
no_iri bytes i h byte none kind j t = only_iri bytes i none kind j t (form_of_token bytes kind i j t h ∙ ap byte_form byte)

pub no_text : (bytes : List ℕ) (i : ℕ) → i < length bytes → get_or bytes i 0 ≡ 34 → ((j : ℕ) → IsText bytes i j → ⊥) → NoTokenAt bytes i
no_text bytes i h byte none kind j t = only_text bytes i none kind j t (form_of_token bytes kind i j t h ∙ ap byte_form byte)

pub no_lang : (bytes : List ℕ) (i : ℕ) → i < length bytes → get_or bytes i 0 ≡ 64 → ((j : ℕ) → IsLang bytes i j → ⊥) → NoTokenAt bytes i
no_lang bytes i h byte none kind j t = only_lang bytes i none kind j t (form_of_token bytes kind i j t h ∙ ap byte_form byte)

pub no_run : (bytes : List ℕ) (i : ℕ) → i < length bytes → byte_form (get_or bytes i 0) ≡ 7 → ((kind : TokenKind) (j : ℕ) → IsRun bytes kind i j → ⊥) → NoTokenAt bytes i
no_run bytes i h byte none kind j t = none kind j (as_run bytes kind i j t (form_of_token bytes kind i j t h ∙ byte))

-- the second byte of a ^^
pub caret_bytes : (bytes : List ℕ) (i j : ℕ) → StandsAt bytes i (94 ∷ 94 ∷ []) j → (i + 1 < length bytes) × (get_or bytes (i + 1) 0 ≡ 94)
caret_bytes bytes i j s =
    let ends = s.ends in
    let inside = s.in_range in
    (omega arith, sym (get_or-drop i bytes 1 0) ∙ ap (λ t. get_or t 1 0) s.is)

-- what a run may be has the form of runs
run_text_form : (text : List ℕ) (kind : TokenKind) → IsRunText text kind → form kind ≡ 7
run_text_form text _ (node n) = refl
run_text_form text _ (short n c) = refl
run_text_form text _ (number n c d) = refl
run_text_form text _ (word k n c d same) = refl

token_of_run_by : (bytes : List ℕ) (kind : TokenKind) (i j : ℕ) → IsRun bytes kind i j → form kind ≡ 7 → IsTokenAt bytes kind i j
token_of_run_by bytes Node i j r e = r
token_of_run_by bytes Short i j r e = r
token_of_run_by bytes Number i j r e = r
token_of_run_by bytes (Word keyword) i j r e = r
token_of_run_by bytes kind i j r e = absurd (omega arith)

-- a run of a kind is a token of the kind
pub token_of_run : (bytes : List ℕ) (kind : TokenKind) (i j : ℕ) → IsRun bytes kind i j → IsTokenAt bytes kind i j
token_of_run bytes kind i j r = token_of_run_by bytes kind i j r (run_text_form (slice_range bytes i j) kind r.is)

-- a byte that begins no other form begins a run, if any
pub run_byte : (b : ℕ) → IsRunByte b → byte_form b ≡ 7
run_byte b h =
    let no_open = h.no_open in
    let no_close = h.no_close in
    let no_equals = h.no_equals in
    let no_caret' = h.no_caret in
    let no_iri' = h.no_iri in
    let no_text' = h.no_text in
    let no_lang' = h.no_lang in
    grind (arith, nat_tests)

-- a text that is no Node, has no : and isn't of digits alone is of a kind only as the text of a keyword
no_word : (text : List ℕ) (kind : TokenKind) → is_node text ≡ false → has_colon text ≡ false → is_number text ≡ false → NoKeyword text → IsRunText text kind → ⊥
no_word text _ no_node no_colon no_number none (node n) = cc
no_word text _ no_node no_colon no_number none (short n c) = cc
no_word text _ no_node no_colon no_number none (number n c d) = cc
no_word text _ no_node no_colon no_number none (word k n c d same) = none k same

pub word_text : (text : List ℕ) (o : Option Keyword) → is_node text ≡ false → has_colon text ≡ false → is_number text ≡ false → MatchOption o (NoKeyword text) (λ k. text ≡ keyword_text k) → MatchOption (option_map Word o) (NoRunText text) (IsRunText text)
word_text text None no_node no_colon no_number none = λ kind r. no_word text kind no_node no_colon no_number none r
word_text text (Some k) no_node no_colon no_number same = word k no_node no_colon no_number same
