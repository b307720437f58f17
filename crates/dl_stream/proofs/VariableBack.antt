-- Variables that are printed by number have these numbers where they are read: a new one has the next.
use Rattle.std.proofs.Common.{◌≡◌, ℕ, ◌+◌, ◌<◌, ◌≤◌, ◌^◌, Bool, true, false, List, [], ◌∷◌, length, map, get_or, drop, slice_get, Some, refl, sym, ap, subst, ◌∙◌, arith}
use Rattle.std.specs.Fmt.{decimal}
use Rattle.std.specs.List.{range_with_len}
use Rattle.std.specs.Str.{bytes_eq}
use Rattle.std.specs.Str.Parse.{digits_value}
use Rattle.std.proofs.lemmas.Fmt.{decimal_is_IsNumeral}
use Rattle.std.proofs.lemmas.List.Folds.{list_any_none}
use Rattle.std.proofs.lemmas.List.FromFn.{length-map-range_with_len, get_or-map-range_with_len, map-range_with_len_more}
use Rattle.std.proofs.lemmas.List.{length-append}
use Rattle.std.proofs.lemmas.Option.{slice_get-get_or}
use Rattle.dl_names.specs.NameList.{Text, has_name, names_after, place_of, HasNoRepeats}
use Rattle.dl_names.proofs.NameListLemmas.{same-bytes_eq, names_after-old, names_after-new, has_name-slice_get, place_of-slice_get, place_of-new, place_of-names_after}
use Rattle.dl_query.proofs.NumberLemmas.{number-below}

-- the name of a variable, without the ?
abbrev pub variable_name : ℕ → Text
variable_name v = 118 ∷ decimal v

-- the names of the first so many variables
abbrev pub variable_names : ℕ → List Text
variable_names k = map variable_name (range_with_len 0 k)

one_number : (a b : ℕ) → a < 2 ^ 64 → b < 2 ^ 64 → variable_name a ≡ variable_name b → a ≡ b
one_number a b a_in b_in same =
    sym (decimal_is_IsNumeral a a_in).1 ∙ ap (λ t. digits_value 10 (drop 1 t)) same ∙ (decimal_is_IsNumeral b b_in).1

module _ (k : ℕ) (few : k ≤ 256) where
  at_place : (v : ℕ) (d : Text) → v < k → get_or (variable_names k) v d ≡ variable_name v
  at_place v d below = get_or-map-range_with_len variable_name 0 k v v d below (omega arith)

  differ : HasNoRepeats (variable_names k)
  differ i j d less within same =
      let j_in : j < k = omega (arith, within, length-map-range_with_len variable_name 0 k) in
      let names_same : variable_name i ≡ variable_name j = sym (at_place i d (omega arith)) ∙ same ∙ at_place j d j_in in
      let number_same = one_number i j (omega arith) (omega arith) names_same in
      omega (arith, number_same)

  placed : (v : ℕ) → v < k → slice_get (variable_names k) v ≡ Some (variable_name v)
  placed v below =
      let v_in : v < length (variable_names k) = omega (arith, length-map-range_with_len variable_name 0 k) in
      slice_get-get_or (variable_names k) v [] v_in ∙ ap Some (at_place v [] below)

  pub place_back : (v : ℕ) → v < k → place_of (variable_names k) (variable_name v) ≡ v
  place_back v below = place_of-slice_get (variable_names k) (variable_name v) differ v (placed v below)

  known : (v : ℕ) → v < k → names_after (variable_names k) (variable_name v) ≡ variable_names k
  known v below =
      names_after-old (variable_names k) (variable_name v) (has_name-slice_get (variable_names k) (variable_name v) v (placed v below))

unlike : (v k : ℕ) → v < k → k ≤ 256 → (b : Bool) → bytes_eq (variable_name k) (variable_name v) ≡ b → bytes_eq (variable_name k) (variable_name v) ≡ false
unlike v k below few false e = e
unlike v k below few true e =
    let same = one_number k v (omega arith) (omega arith) (same-bytes_eq (variable_name k) (variable_name v) e) in
    absurd (omega (arith, same))

new : (k : ℕ) → k ≤ 256 → names_after (variable_names k) (variable_name k) ≡ variable_names (k + 1)
new k few =
    let none : has_name (variable_names k) (variable_name k) ≡ false =
    list_any_none (bytes_eq (variable_name k)) (variable_names k) (λ i d within.
    let i_in : i < k = omega (arith, within, length-map-range_with_len variable_name 0 k) in
    let at = get_or-map-range_with_len variable_name 0 k i i d i_in (omega arith) in
    subst (λ t. bytes_eq (variable_name k) t ≡ false) (sym at)
    (unlike i k i_in few (bytes_eq (variable_name k) (variable_name i)) refl))
    in
    names_after-new (variable_names k) (variable_name k) none ∙ sym (map-range_with_len_more variable_name 0 k k (omega arith))

-- a variable is met, by whatever name: printed by its number it is met as the same one
module _ (variables : List Text) (x : Text) where
  abbrev number : ℕ
  number = place_of (names_after variables x) x

  abbrev after : ℕ
  after = length (names_after variables x)

  pub variables_back : after ≤ 256 → names_after (variable_names (length variables)) (variable_name number) ≡ variable_names after
  variables_back few = by (has_name variables x) refl
    where
      by : (b : Bool) → has_name variables x ≡ b
          → names_after (variable_names (length variables)) (variable_name number) ≡ variable_names after
      by true e =
          let old = names_after-old variables x e in
          let as_many : after ≡ length variables = ap length old in
          let below : number < length variables = omega (arith, number-below variables x, as_many) in
          known (length variables) (omega (arith, few, as_many)) number below ∙ ap variable_names (sym as_many)
      by false e =
          let more = names_after-new variables x e in
          let as_many : after ≡ length variables + 1 = omega (arith, simp length-append at (ap length more)) in
          let last : number ≡ length variables = place_of-names_after variables x ∙ place_of-new variables x e in
          ap (λ n. names_after (variable_names (length variables)) (variable_name n)) last
          ∙ new (length variables) (omega (arith, few, as_many)) ∙ ap variable_names (sym as_many)

  pub number_back : after ≤ 256
      → place_of (names_after (variable_names (length variables)) (variable_name number)) (variable_name number) ≡ number
  number_back few =
      ap (λ l. place_of l (variable_name number)) (variables_back few) ∙ place_back after few number (number-below variables x)
