-- How the variables of a query are numbered, and which of them are existential.
use Rattle.std.proofs.Common.{append-nil, ◌≡◌, ℕ, zero, suc, ◌+◌, ◌<◌, ◌≤◌, ◌⊎◌, inl, inr, Bool, true, false, cond, not, ◌&&◌, ◌||◌, nat_le, nat_eq, List, [], ◌∷◌, ◌++◌, length, refl, sym, ap, subst, ◌∙◌, true≢false, arith}
use Rattle.std.specs.List.{list_any, flat_map, filter, range_with_len, AllByRecursion}
use Rattle.std.proofs.lemmas.Bool.{eq-eqb, eqb-true, leb-true, leb-false}
use Rattle.std.proofs.lemmas.List.{length-append}
use Rattle.std.proofs.lemmas.List.Folds.{list_any-append}
use Rattle.std.proofs.lemmas.Grind.{flat_map-append}
use Rattle.dl_names.specs.NameList.{Text, has_name, names_after, place_of}
use Rattle.dl_names.proofs.NameListLemmas.{place_of-names_after, place_of-new, place_of-lt, has_name-names_after, names_after-old, Extends-names_after, length-Extends, length-names_after}
use Rattle.dl_terms.specs.declared.query.Term.{Term}
use Rattle.dl_terms.specs.declared.query.Atom.{Atom}
use Rattle.dl_terms.specs.declared.query.Atom.TheVariants.{Is, Link}
use Rattle.dl_terms.specs.Queries.{term_variables, atom_variables, is_existential, existential_variables}
use Rattle.dl_query.specs.Symbols.{Symbol}
use Rattle.dl_query.specs.Grammar.{Met, with_name, name_at, with_atom, IsTerm, variable_term, name_term, AtomThen, class_atom, role_atom, IsBody, last_atom, more_atoms, VariablesThen, last_variable, more_variables, HeadThen, no_variable, some_variables, IsQuery, query_of}
use Rattle.dl_query.specs.Parts.{IsNumbered, AreNumbers}

-- ---- lists

abbrev pub is_in : ℕ → List ℕ → Bool
is_in v xs = list_any (nat_eq v) xs

or-left : (a b : Bool) → a ≡ true → (a || b) ≡ true
or-left a b h = ap (λ x. x || b) h

or-right : (a b : Bool) → b ≡ true → (a || b) ≡ true
or-right true b h = refl
or-right false b h = h

or-cases : (a b : Bool) → (a || b) ≡ true → (a ≡ true) ⊎ (b ≡ true)
or-cases true b h = inl refl
or-cases false b h = inr h

and-false : (a : Bool) → (a && false) ≡ false
and-false true = refl
and-false false = refl

module _ (v : ℕ) (xs ys : List ℕ) where
  pub in-left : is_in v xs ≡ true → is_in v (xs ++ ys) ≡ true
  in-left h = list_any-append (nat_eq v) xs ys ∙ or-left (is_in v xs) (is_in v ys) h

  pub in-right : is_in v ys ≡ true → is_in v (xs ++ ys) ≡ true
  in-right h = list_any-append (nat_eq v) xs ys ∙ or-right (is_in v xs) (is_in v ys) h

module _ (P : ℕ → Type 0) where
  pub each-append : (xs ys : List ℕ) → AllByRecursion P xs → AllByRecursion P ys → AllByRecursion P (xs ++ ys)
  each-append [] ys h k = k
  each-append (x ∷ xs) ys h k = (h.0, each-append xs ys h.1 k)

pub each-below : (a b : ℕ) → a ≤ b → (xs : List ℕ) → AllByRecursion (λ v. v < a) xs → AllByRecursion (λ v. v < b) xs
each-below a b l [] h = tt
each-below a b l (x ∷ xs) h = (omega (arith, h.0, l), each-below a b l xs h.1)

-- ---- a variable is met

module _ (variables : List Text) (x : Text) where
  pub number-below : place_of (names_after variables x) x < length (names_after variables x)
  number-below = place_of-lt (names_after variables x) x (has_name-names_after variables x)

  pub variables-grow : length variables ≤ length (names_after variables x)
  variables-grow = length-Extends variables _ (Extends-names_after variables x)

  -- a number below the count is an old one, or the variable's
  pub number-new : (v : ℕ) → v < length (names_after variables x) → (v < length variables) ⊎ (nat_eq v (place_of (names_after variables x) x) ≡ true)
  number-new v h = by (has_name variables x) refl
    where
      by : (b : Bool) → has_name variables x ≡ b → (v < length variables) ⊎ (nat_eq v (place_of (names_after variables x) x) ≡ true)
      by true e = inl (subst (λ l. v < length l) (names_after-old variables x e) h)
      by false e = last (nat_le (length variables) v) refl
        where
          place : place_of (names_after variables x) x ≡ length variables
          place = place_of-names_after variables x ∙ place_of-new variables x e

          last : (c : Bool) → nat_le (length variables) v ≡ c → (v < length variables) ⊎ (nat_eq v (place_of (names_after variables x) x) ≡ true)
          last false f = inl (leb-false _ _ f)
          last true f =
              let least = leb-true _ _ f in
              inr (eq-eqb v _ (omega (arith, h, least, length-names_after variables x, place)))

-- ---- the head

-- each number below the count is in the head
abbrev InHead : Met → Type 0
InHead m = (v : ℕ) → v < length m.variables → is_in v m.head ≡ true

-- a variable is added
pub number-added : (head : List ℕ) (variables : List Text) (x : Text) → ((v : ℕ) → v < length variables → is_in v head ≡ true)
    → (v : ℕ) → v < length (names_after variables x) → is_in v (head ++ place_of (names_after variables x) x ∷ []) ≡ true
number-added head variables x h v below = by (number-new variables x v below)
  where
    by : (v < length variables) ⊎ (nat_eq v (place_of (names_after variables x) x) ≡ true)
        → is_in v (head ++ place_of (names_after variables x) x ∷ []) ≡ true
    by (inl old) = in-left v head (place_of (names_after variables x) x ∷ []) (h v old)
    by (inr new) = in-right v head (place_of (names_after variables x) x ∷ []) (or-left _ false new)

variables-numbered : {m after : Met} {symbols rest : List Symbol} → VariablesThen m symbols rest after → InHead m → InHead after
variables-numbered {m} (last_variable {x = x}) h = number-added m.head m.variables x h
variables-numbered {m} (more_variables {x = x} others) h = variables-numbered others (number-added m.head m.variables x h)

variables-atoms : {m after : Met} {symbols rest : List Symbol} → VariablesThen m symbols rest after → after.atoms ≡ m.atoms
variables-atoms last_variable = refl
variables-atoms (more_variables others) = variables-atoms others

head-numbered : {m after : Met} {symbols rest : List Symbol} → HeadThen m symbols rest after → InHead m → InHead after
head-numbered no_variable h = h
head-numbered (some_variables all) h = variables-numbered all h

pub head-atoms : {m after : Met} {symbols rest : List Symbol} → HeadThen m symbols rest after → after.atoms ≡ m.atoms
head-atoms no_variable = refl
head-atoms (some_variables all) = variables-atoms all

-- ---- the body

-- a term is met, or terms: the variables of it are below the count, and no others are new
record Meets (m : Met) (numbers : List ℕ) (after : Met) : Type 0 where
  head : after.head ≡ m.head
  atoms : after.atoms ≡ m.atoms
  grows : length m.variables ≤ length after.variables
  below : AllByRecursion (λ v. v < length after.variables) numbers
  new : (v : ℕ) → v < length after.variables → (v < length m.variables) ⊎ (is_in v numbers ≡ true)

term-meets : {m after : Met} {s : Symbol} {t : Term} → IsTerm m s t after → Meets m (term_variables t) after
term-meets {m} (variable_term {x = x}) = record {
  head = refl;
  atoms = refl;
  grows = variables-grow m.variables x;
  below = (number-below m.variables x, tt);
  new = λ v h. by v (number-new m.variables x v h);
}
  where
    by : (v : ℕ) → (v < length m.variables) ⊎ (nat_eq v (place_of (names_after m.variables x) x) ≡ true)
        → (v < length m.variables) ⊎ (is_in v (place_of (names_after m.variables x) x ∷ []) ≡ true)
    by v (inl old) = inl old
    by v (inr new) = inr (or-left _ false new)
term-meets {m} (name_term free) = record { head = refl; atoms = refl; grows = omega arith; below = tt; new = λ v h. inl h }

Meets-then : {m one two : Met} (xs ys : List ℕ) → Meets m xs one → Meets one ys two → Meets m (xs ++ ys) two
Meets-then {m} {one} {two} xs ys first second = record {
  head = second.head ∙ first.head;
  atoms = second.atoms ∙ first.atoms;
  grows = omega (arith, first.grows, second.grows);
  below = each-append (λ v. v < length two.variables) xs ys (each-below (length one.variables) (length two.variables) second.grows xs first.below) second.below;
  new = λ v h. later v (second.new v h);
}
  where
    sooner : (v : ℕ) → (v < length m.variables) ⊎ (is_in v xs ≡ true) → (v < length m.variables) ⊎ (is_in v (xs ++ ys) ≡ true)
    sooner v (inl old) = inl old
    sooner v (inr new) = inr (in-left v xs ys new)

    later : (v : ℕ) → (v < length one.variables) ⊎ (is_in v ys ≡ true) → (v < length m.variables) ⊎ (is_in v (xs ++ ys) ≡ true)
    later v (inl old) = sooner v (first.new v old)
    later v (inr new) = inr (in-right v xs ys new)

-- a name doesn't matter
named-meets : (m after : Met) (c : Text) (xs : List ℕ) → Meets (with_name m c) xs after → Meets m xs after
named-meets m after c xs h = record { head = h.head; atoms = h.atoms; grows = h.grows; below = h.below; new = h.new }

abbrev numbers_of : Met → List ℕ
numbers_of m = flat_map atom_variables m.atoms

record AllNumbered (m : Met) : Type 0 where
  within : AllByRecursion (λ v. v < length m.variables) (numbers_of m)
  each : (v : ℕ) → v < length m.variables → (is_in v m.head || is_in v (numbers_of m)) ≡ true

-- an atom is added whose variables are met
atom-numbered : {m one : Met} (a : Atom) → Meets m (atom_variables a) one → AllNumbered m → AllNumbered (with_atom one a)
atom-numbered {m} {one} a meets all = record {
  within =
      subst (AllByRecursion (λ v. v < length one.variables)) (sym numbers)
      (each-append (λ v. v < length one.variables) (numbers_of m) (atom_variables a) (each-below _ _ meets.grows (numbers_of m) all.within) meets.below);
  each = λ v h. by v (meets.new v h);
}
  where
    numbers : numbers_of (with_atom one a) ≡ numbers_of m ++ atom_variables a
    numbers =
        flat_map-append atom_variables one.atoms (a ∷ [])
        ∙ (λ i. flat_map atom_variables (meets.atoms i) ++ append-nil (atom_variables a) i)

    whole : (v : ℕ) → (is_in v m.head || is_in v (numbers_of m ++ atom_variables a)) ≡ true → (is_in v one.head || is_in v (numbers_of (with_atom one a))) ≡ true
    whole v h = (λ i. is_in v (meets.head i) || is_in v (numbers i)) ∙ h

    by : (v : ℕ) → (v < length m.variables) ⊎ (is_in v (atom_variables a) ≡ true) → (is_in v one.head || is_in v (numbers_of (with_atom one a))) ≡ true
    by v (inl old) = whole v (old_in (or-cases (is_in v m.head) (is_in v (numbers_of m)) (all.each v old)))
      where
        old_in : (is_in v m.head ≡ true) ⊎ (is_in v (numbers_of m) ≡ true) → (is_in v m.head || is_in v (numbers_of m ++ atom_variables a)) ≡ true
        old_in (inl h) = or-left _ _ h
        old_in (inr h) = or-right _ _ (in-left v (numbers_of m) (atom_variables a) h)
    by v (inr new) = whole v (or-right _ _ (in-right v (numbers_of m) (atom_variables a) new))

then-numbered : {m after : Met} {symbols rest : List Symbol} → AtomThen m symbols rest after → AllNumbered m → AllNumbered after
then-numbered {m} (class_atom {c = c} {t = t} {one} may is_t) all =
    atom-numbered {m = m} {one = one} (Is (name_at m c) t) (named-meets m one c (term_variables t) (term-meets is_t)) all
then-numbered {m} (role_atom {p = p} {t = t} {u} {one} {two} free is_t is_u) all =
    atom-numbered {m = m} {one = two} (Link (name_at m p) t u)
    (Meets-then (term_variables t) (term_variables u) (named-meets m one p (term_variables t) (term-meets is_t)) (term-meets is_u)) all

length-last : (atoms : List Atom) (a : Atom) → 1 ≤ length (atoms ++ a ∷ [])
length-last atoms a = omega (arith, length-append atoms (a ∷ []))

then-some : {m after : Met} {symbols rest : List Symbol} → AtomThen m symbols rest after → 1 ≤ length after.atoms
then-some (class_atom {one = one} may is_t) = length-last one.atoms _
then-some (role_atom {two = two} free is_t is_u) = length-last two.atoms _

body-numbered : {m after : Met} {symbols : List Symbol} → IsBody m symbols after → AllNumbered m → IsNumbered after
body-numbered (last_atom a) all =
    let numbered = then-numbered a all in record { within = numbered.within; each = numbered.each; some = then-some a }
body-numbered (more_atoms a others) all = body-numbered others (then-numbered a all)

pub query-numbered : (names : List Text) (symbols : List Symbol) (m : Met) → IsQuery names symbols m → IsNumbered m
query-numbered names symbols m q =
    let in_head : InHead q.middle = head-numbered q.in_head (λ v h. absurd (omega (arith, h))) in
    let no_atoms : numbers_of q.middle ≡ [] = ap (flat_map atom_variables) (head-atoms q.in_head) in
    body-numbered q.in_body (record {
      within = subst (AllByRecursion (λ v. v < length q.middle.variables)) (sym no_atoms) tt;
      each = λ v h. or-left _ _ (in_head v h);
    })

-- a number in the list is below what all of them are below
pub in-below : (count v : ℕ) (xs : List ℕ) → AllByRecursion (λ x. x < count) xs → is_in v xs ≡ true → v < count
in-below count v [] all h = absurd (true≢false (sym h))
in-below count v (x ∷ xs) all h = by (or-cases (nat_eq v x) (is_in v xs) h) (in-below count v xs all.1)
  where
    by : (nat_eq v x ≡ true) ⊎ (is_in v xs ≡ true) → (is_in v xs ≡ true → v < count) → v < count
    by (inl same) later = omega (arith, all.0, eqb-true v x same)
    by (inr rest) later = later rest

-- ---- existential variables

module _ (p : ℕ → Bool) where
  all-pass : (from n : ℕ) → ((v : ℕ) → from ≤ v → v < from + n → p v ≡ true) → length (filter p (range_with_len from n)) ≡ n
  all-pass from zero h = refl
  all-pass from (suc n) h =
      let rest : length (filter p (range_with_len (from + 1) n)) ≡ n = all-pass (from + 1) n (λ v low high. h v (omega (arith, low)) (omega (arith, high))) in
      ap (λ b. length (cond b (from ∷ filter p (range_with_len (from + 1) n)) (filter p (range_with_len (from + 1) n)))) (h from (omega arith) (omega arith))
      ∙ ap suc rest

  -- where the numbers below one fail and the others pass
  passing : (heads from n : ℕ) → from ≤ heads → heads ≤ from + n → ((v : ℕ) → v < heads → p v ≡ false)
      → ((v : ℕ) → heads ≤ v → v < from + n → p v ≡ true) → length (filter p (range_with_len from n)) + heads ≡ from + n
  passing heads from zero low high fail pass = omega (arith, low, high)
  passing heads from (suc n) low high fail pass = by (nat_le heads from) refl (passing heads (from + 1) n)
    where
      by : (b : Bool) → nat_le heads from ≡ b
          → (from + 1 ≤ heads → heads ≤ from + 1 + n → ((v : ℕ) → v < heads → p v ≡ false)
          → ((v : ℕ) → heads ≤ v → v < from + 1 + n → p v ≡ true) → length (filter p (range_with_len (from + 1) n)) + heads ≡ from + 1 + n)
          → length (filter p (range_with_len from (suc n))) + heads ≡ from + suc n
      by true e rest =
          let least = leb-true _ _ e in
          let all : length (filter p (range_with_len from (suc n))) ≡ suc n = all-pass from (suc n) (λ v l h. pass v (omega (arith, l, least)) h) in
          omega (arith, low, least, all)
      by false e rest =
          let less = leb-false _ _ e in
          let others : length (filter p (range_with_len (from + 1) n)) + heads ≡ from + 1 + n =
          rest (omega (arith, less)) (omega (arith, high)) fail (λ v l h. pass v l (omega (arith, h)))
          in
          let first : length (filter p (range_with_len from (suc n))) ≡ length (filter p (range_with_len (from + 1) n)) =
          ap (λ b. length (cond b (from ∷ filter p (range_with_len (from + 1) n)) (filter p (range_with_len (from + 1) n)))) (fail from less)
          in
          omega (arith, others, first)

-- those behind the variables of the head
pub existential-count : (m : Met) (heads : ℕ) → IsNumbered m → AreNumbers m.head heads → heads ≤ length m.variables
    → length (existential_variables (query_of m)) + heads ≡ length m.variables
existential-count m heads numbered numbers fits =
    let count = passing (is_existential (query_of m)) heads 0 (length m.variables) (omega arith) (omega (arith, fits)) in_head in_body in
    omega (arith, count)
  where
    in_head : (v : ℕ) → v < heads → is_existential (query_of m) v ≡ false
    in_head v h =
        ap (λ b. is_in v (numbers_of m) && not b) (numbers.each v h) ∙ and-false (is_in v (numbers_of m))

    not_in_head : (v : ℕ) → heads ≤ v → (b : Bool) → is_in v m.head ≡ b → b ≡ false
    not_in_head v h true e = absurd (omega (arith, h, in-below heads v m.head numbers.below e))
    not_in_head v h false e = refl

    in_body : (v : ℕ) → heads ≤ v → v < 0 + length m.variables → is_existential (query_of m) v ≡ true
    in_body v low high =
        let out : is_in v m.head ≡ false = not_in_head v low (is_in v m.head) refl in
        let both : is_in v (numbers_of m) ≡ true = (λ i. (sym out i) || is_in v (numbers_of m)) ∙ numbered.each v (omega (arith, high)) in
        (λ i. both i && not (out i))
