-- Reading gives what the grammar has: token by token both go the same way.
use Rattle.std.proofs.Common.{◌≡◌, ℕ, ◌<◌, ◌≤◌, Bool, true, false, cond, not, ◌&&◌, nat_le, List, [], ◌∷◌, length, refl, sym, ap, subst, ◌∙◌, true≢false, arith}
use Rattle.std.proofs.lemmas.Bool.{leb-true, leb-false}
use Rattle.std.proofs.lemmas.List.{length-append}
use Rattle.dl_names.specs.NameList.{Text, max_names, has_name, names_after, has_no_place}
use Rattle.dl_names.proofs.NameListLemmas.{names_after-old, names_after-new, Extends-names_after, length-Extends}
use Rattle.dl_terms.specs.declared.query.Term.{Term}
use Rattle.dl_terms.specs.declared.query.Term.TheVariants.{Name}
use Rattle.dl_terms.specs.declared.query.Atom.TheVariants.{Link}
use Rattle.dl_query.specs.declared.token.Mark.TheVariants.{Opening, Closing, Comma}
use Rattle.dl_query.specs.Symbols.{Symbol, mark, Placed, symbols_of}
use Rattle.dl_query.specs.Grammar.{Met, with_name, name_at, with_atom, IsTerm, variable_term, name_term, AtomThen, class_atom, role_atom, IsBody, last_atom, more_atoms, VariablesThen, last_variable, more_variables, HeadThen, no_variable, some_variables, nothing_met, IsQuery}
use Rattle.dl_names.specs.Iris.{is_free, may_be_class}
use Rattle.dl_query.specs.Steps.{Expected, query_word, head_first, head_variable, head_end, predicate, body_more, terms_opening, first_more, second_term, second_closing, Cause, reserved, too_many_names, fault_of, Move, goes, refuses, ends, name_move, term_move, second_move, move_of}
use Rattle.dl_query.specs.Reading.{Outcome, gives, fails, unfinished, outcome_of, outcome}

-- ---- reading the tokens without their offsets

-- what it gives: what is read, the cause of a fault, or that the tokens end before that
pub data End : Type 0 where
  reads : Met → End
  stops : Cause → End
  open_end : End

abbrev pub end_after : Met → (Expected → Met → End) → Move → End
end_after m onward (goes e after) = onward e after
end_after m onward (refuses cause) = stops cause
end_after m onward ends = reads m

abbrev pub end_of : Expected → Met → List Symbol → End
end_of e m [] = open_end
end_of e m (s ∷ symbols) = end_after m (λ e' m'. end_of e' m' symbols) (move_of e m s)

abbrev pub Agrees : Outcome → End → Type 0
Agrees (gives m) end = end ≡ reads m
Agrees (fails fault names) end = (cause : Cause) × (at : ℕ) × (fault ≡ fault_of cause at) × (end ≡ stops cause)
Agrees unfinished end = end ≡ open_end

pub outcome-agrees : (e : Expected) (m : Met) (tokens : List Placed) → Agrees (outcome e m tokens) (end_of e m (symbols_of tokens))
outcome-agrees e m [] = refl
outcome-agrees e m (t ∷ tokens) = by (move_of e m t.symbol) (λ e' m'. outcome-agrees e' m' tokens)
  where
    by : (move : Move) → ((e' : Expected) (m' : Met) → Agrees (outcome e' m' tokens) (end_of e' m' (symbols_of tokens)))
        → Agrees (outcome_of m t (λ e' m'. outcome e' m' tokens) move) (end_after m (λ e' m'. end_of e' m' (symbols_of tokens)) move)
    by (goes e' m') rest = rest e' m'
    by (refuses cause) rest = (cause, t.at, refl, refl)
    by ends rest = refl

-- ---- places for names

abbrev pub Fits : Met → Type 0
Fits m = length m.names ≤ max_names

module _ (names : List Text) (text : Text) where
  pub names-grow : length names ≤ length (names_after names text)
  names-grow = length-Extends names _ (Extends-names_after names text)

  -- where there is a place, the names fit afterwards
  pub place-fits : has_no_place names text ≡ false → length names ≤ max_names → length (names_after names text) ≤ max_names
  place-fits h fits = by (has_name names text) refl (nat_le max_names (length names)) refl
    where
      by : (b : Bool) → has_name names text ≡ b → (c : Bool) → nat_le max_names (length names) ≡ c → length (names_after names text) ≤ max_names
      by true e c f = subst (λ l. length l ≤ max_names) (sym (names_after-old names text e)) fits
      by false e true f = absurd (true≢false (sym (λ i. not (e i) && f i) ∙ h))
      by false e false f =
          let less = leb-false _ _ f in
          subst (λ l. length l ≤ max_names) (sym (names_after-new names text e)) (omega (arith, less, length-append names (text ∷ [])))

  -- and where there is none, they don't
  pub no_place-over : has_no_place names text ≡ true → max_names < length (names_after names text)
  no_place-over h = by (has_name names text) refl (nat_le max_names (length names)) refl
    where
      by : (b : Bool) → has_name names text ≡ b → (c : Bool) → nat_le max_names (length names) ≡ c → max_names < length (names_after names text)
      by true e c f = absurd (true≢false (sym h ∙ (λ i. not (e i) && nat_le max_names (length names))))
      by false e false f = absurd (true≢false (sym h ∙ (λ i. not (e i) && f i)))
      by false e true f =
          let least = leb-true _ _ f in
          subst (λ l. max_names < length l) (sym (names_after-new names text e)) (omega (arith, least, length-append names (text ∷ [])))

-- ---- a text of the grammar is read

-- reading from the first place goes on to the second, with these names, unless they don't fit
pub data Runs (names : List Text) (start there : End) : Type 0 where
  runs_on : length names ≤ max_names → start ≡ there → Runs names start there
  runs_out : max_names < length names → start ≡ stops too_many_names → Runs names start there

Runs-from : {names : List Text} {s t u : End} → s ≡ t → Runs names t u → Runs names s u
Runs-from is (runs_on fits on) = runs_on fits (is ∙ on)
Runs-from is (runs_out over out) = runs_out over (is ∙ out)

pub Runs-then : {one two : List Text} {s t u : End} → Runs one s t → length one ≤ length two → (length one ≤ max_names → Runs two t u) → Runs two s u
Runs-then (runs_on fits is) grows later = Runs-from is (later fits)
Runs-then (runs_out over is) grows later = runs_out (omega (arith, over, grows)) is

module _ (allowed : Text → Bool) (m : Met) (text : Text) (expected : ℕ → Expected) (onward : Expected → Met → End) where
  name-runs : allowed text ≡ true → Fits m
      → Runs (names_after m.names text) (end_after m onward (name_move allowed m text expected)) (onward (expected (name_at m text)) (with_name m text))
  name-runs is_allowed fits = by (has_no_place m.names text) refl
    where
      is : (b : Bool) → has_no_place m.names text ≡ b
          → end_after m onward (name_move allowed m text expected)
          ≡ end_after m onward (cond b (refuses too_many_names) (goes (expected (name_at m text)) (with_name m text)))
      is b e = λ i. end_after m onward (cond (not (is_allowed i)) (refuses reserved) (cond (e i) (refuses too_many_names) (goes (expected (name_at m text)) (with_name m text))))

      by : (b : Bool) → has_no_place m.names text ≡ b
          → Runs (names_after m.names text) (end_after m onward (name_move allowed m text expected)) (onward (expected (name_at m text)) (with_name m text))
      by true e = runs_out (no_place-over m.names text e) (is true e)
      by false e = runs_on (place-fits m.names text e fits) (is false e)

term-grows : {m after : Met} {s : Symbol} {t : Term} → IsTerm m s t after → length m.names ≤ length after.names
term-grows variable_term = omega arith
term-grows {m} (name_term {text = text} free) = names-grow m.names text

term-runs : {m after : Met} {s : Symbol} {t : Term} → IsTerm m s t after → Fits m → (expected : Term → Expected) (onward : Expected → Met → End)
    → Runs after.names (end_after m onward (term_move m s expected)) (onward (expected t) after)
term-runs variable_term fits expected onward = runs_on fits refl
term-runs {m} (name_term {text = text} free) fits expected onward =
    name-runs is_free m text (λ place. expected (Name place)) onward free fits

pub atom-grows : {m after : Met} {symbols rest : List Symbol} → AtomThen m symbols rest after → length m.names ≤ length after.names
atom-grows {m} (class_atom {c = c} may t) = omega (arith, names-grow m.names c, term-grows t)
atom-grows {m} (role_atom {p = p} free t u) = omega (arith, names-grow m.names p, term-grows t, term-grows u)

free-may : (text : Text) → is_free text ≡ true → may_be_class text ≡ true
free-may text free = grind (arith, free)

atom-runs : {m after : Met} {symbols rest : List Symbol} → AtomThen m symbols rest after → Fits m
    → Runs after.names (end_of predicate m symbols) (end_of body_more after rest)
atom-runs {m} (class_atom {c = c} {s} {t} {one} {rest} may is_t) fits =
    let symbols = mark Opening ∷ s ∷ mark Closing ∷ rest in
    Runs-then (name-runs may_be_class m c (λ place. terms_opening place (is_free c)) (λ e' m'. end_of e' m' symbols) may fits) (term-grows is_t)
    (λ fits_one. term-runs is_t fits_one (first_more (name_at m c) (is_free c)) (λ e' m'. end_of e' m' (mark Closing ∷ rest)))
atom-runs {m} (role_atom {p = p} {s} {s'} {t} {u} {one} {two} {rest} free is_t is_u) fits =
    let after_p = mark Opening ∷ s ∷ mark Comma ∷ s' ∷ mark Closing ∷ rest in
    let after_t = mark Comma ∷ s' ∷ mark Closing ∷ rest in
    let second : end_of (first_more (name_at m p) (is_free p) t) one after_t ≡ end_of (second_term (name_at m p) t) one (s' ∷ mark Closing ∷ rest) =
    ap (λ b. end_after one (λ e' m'. end_of e' m' (s' ∷ mark Closing ∷ rest)) (second_move b (name_at m p) one t)) free
    in
    Runs-then (name-runs may_be_class m p (λ place. terms_opening place (is_free p)) (λ e' m'. end_of e' m' after_p) (free-may p free) fits)
    (omega (arith, term-grows is_t, term-grows is_u))
    (λ fits_p. Runs-then (term-runs is_t fits_p (first_more (name_at m p) (is_free p)) (λ e' m'. end_of e' m' after_t)) (term-grows is_u)
    (λ fits_one. subst (λ s. Runs two.names s (end_of body_more (with_atom two (Link (name_at m p) t u)) rest)) (sym second)
    (term-runs is_u fits_one (second_closing (name_at m p) t) (λ e' m'. end_of e' m' (mark Closing ∷ rest)))))

pub body-grows : {m after : Met} {symbols : List Symbol} → IsBody m symbols after → length m.names ≤ length after.names
body-grows (last_atom a) = atom-grows a
body-grows (more_atoms a others) = let later = body-grows others in omega (arith, atom-grows a, later)

body-runs : {m after : Met} {symbols : List Symbol} → IsBody m symbols after → Fits m → Runs after.names (end_of predicate m symbols) (reads after)
body-runs (last_atom a) fits = atom-runs a fits
body-runs (more_atoms a others) fits = Runs-then (atom-runs a fits) (body-grows others) (body-runs others)

variables-run : {m after : Met} {symbols rest : List Symbol} → VariablesThen m symbols rest after → end_of head_variable m symbols ≡ end_of head_end after rest
variables-run last_variable = refl
variables-run (more_variables others) = variables-run others

head-runs : {m after : Met} {symbols rest : List Symbol} → HeadThen m symbols rest after → end_of head_first m symbols ≡ end_of head_end after rest
head-runs no_variable = refl
head-runs (some_variables last_variable) = refl
head-runs (some_variables (more_variables others)) = variables-run others

variables-names : {m after : Met} {symbols rest : List Symbol} → VariablesThen m symbols rest after → after.names ≡ m.names
variables-names last_variable = refl
variables-names (more_variables others) = variables-names others

head-names : {m after : Met} {symbols rest : List Symbol} → HeadThen m symbols rest after → after.names ≡ m.names
head-names no_variable = refl
head-names (some_variables all) = variables-names all

pub query-runs : (names : List Text) (symbols : List Symbol) (m : Met) → IsQuery names symbols m → length names ≤ max_names
    → Runs m.names (end_of query_word (nothing_met names) symbols) (reads m)
query-runs names symbols m q fits =
    let start : end_of query_word (nothing_met names) symbols ≡ end_of predicate q.middle q.body =
    ap (end_of query_word (nothing_met names)) q.is ∙ head-runs q.in_head
    in
    let fits_middle : Fits q.middle = subst (λ l. length l ≤ max_names) (sym (head-names q.in_head)) fits in
    subst (λ s. Runs m.names s (reads m)) (sym start) (body-runs q.in_body fits_middle)

pub query-grows : (names : List Text) (symbols : List Symbol) (m : Met) → IsQuery names symbols m → length names ≤ length m.names
query-grows names symbols m q =
    let same = ap length (head-names q.in_head) in omega (arith, same, body-grows q.in_body)
