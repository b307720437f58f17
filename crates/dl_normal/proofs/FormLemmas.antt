-- From the rows of each axiom to the normal form of all, and each negative beside its axiom.
use Rattle.std.proofs.Common.{◌≡◌, ℕ, ◌+◌, List, [], ◌∷◌, ◌++◌, Option, Some, None, map, filter_map, flat_map, length, take, slice_get, get_or, ◌<◌, refl, sym, ap, ap₂, subst, ◌∙◌, append_assoc, append-nil, length-append, length-take, add-zero, arith}
use Rattle.std.specs.List.{enumerate_from}
use Rattle.std.proofs.lemmas.List.{map-append, take_more}
use Rattle.std.proofs.lemmas.List.Concat.{flat_map-append}
use Rattle.std.proofs.lemmas.List.Elements.{filter_map-append}
use Rattle.dl_terms.specs.NormalForm.{Row, axiom_rows, rows_of, as_role_in, as_concept_in, as_negative, axiom_negatives, negatives}
use Rattle.dl_terms.specs.declared.role.Negative.{Negative}
use Rattle.dl_terms.specs.declared.role.Normal.{Normal}
use Rattle.dl_terms.specs.declared.axiom.Axiom.{Axiom}
use Rattle.dl_normal.specs.Indexed.{indexed_negatives, negatives_by_index, IsNormalForm}
use Rattle.dl_normal.specs.Growing.{Gains}

enumerate-append : {A : Type 0} (n : ℕ) (xs ys : List A) → enumerate_from n (xs ++ ys) ≡ enumerate_from n xs ++ enumerate_from (n + length xs) ys
enumerate-append n [] ys = ap (λ k. enumerate_from k ys) (sym (add-zero n))
enumerate-append n (x ∷ xs) ys =
    let at : n + 1 + length xs ≡ n + length (x ∷ xs) = omega arith in
    ap (λ l. (n, x) ∷ l) (enumerate-append (n + 1) xs ys ∙ ap (λ k. enumerate_from (n + 1) xs ++ enumerate_from k ys) at)

-- the negatives of axioms that are followed by one more
negatives-push : (axioms : List Axiom) (a : Axiom)
    → negatives_by_index (axioms ++ a ∷ []) ≡ negatives_by_index axioms ++ indexed_negatives (length axioms, a)
negatives-push axioms a =
    ap (flat_map indexed_negatives) (enumerate-append 0 axioms (a ∷ []))
    ∙ flat_map-append indexed_negatives (enumerate_from 0 axioms) (enumerate_from (0 + length axioms) (a ∷ []))
    ∙ ap (λ l. negatives_by_index axioms ++ l)
    (append-nil (indexed_negatives (0 + length axioms, a)) ∙ ap (λ k. indexed_negatives (k, a)) (omega arith))

rows-push : (axioms : List Axiom) (a : Axiom) → rows_of (axioms ++ a ∷ []) ≡ rows_of axioms ++ axiom_rows a
rows-push axioms a = flat_map-append axiom_rows axioms (a ∷ []) ∙ ap (λ l. rows_of axioms ++ l) (append-nil (axiom_rows a))

inclusions-push : {A : Type 0} (as_in : Row → Option A) (axioms : List Axiom) (a : Axiom)
    → filter_map as_in (rows_of (axioms ++ a ∷ [])) ≡ filter_map as_in (rows_of axioms) ++ filter_map as_in (axiom_rows a)
inclusions-push as_in axioms a = ap (filter_map as_in) (rows-push axioms a) ∙ filter_map-append as_in (rows_of axioms) (axiom_rows a)

pub IsNormalForm-push : (axioms : List Axiom) (a : Axiom) (old new : Normal) → IsNormalForm axioms old
    → Gains (length axioms) (axiom_rows a) old new → IsNormalForm (axioms ++ a ∷ []) new
IsNormalForm-push axioms a old new is gains = record {
  roles = gains.roles ∙ ap (λ l. l ++ filter_map as_role_in (axiom_rows a)) is.roles ∙ sym (inclusions-push as_role_in axioms a);
  concepts = gains.concepts ∙ ap (λ l. l ++ filter_map as_concept_in (axiom_rows a)) is.concepts ∙ sym (inclusions-push as_concept_in axioms a);
  negatives = gains.negatives ∙ ap (λ l. l ++ indexed_negatives (length axioms, a)) is.negatives ∙ sym (negatives-push axioms a);
}

-- one more axiom of a list
pub IsNormalForm-more : (axioms : List Axiom) (i : ℕ) (a : Axiom) (old new : Normal) → i < length axioms → a ≡ get_or axioms i a
    → IsNormalForm (take i axioms) old → Gains i (axiom_rows a) old new → IsNormalForm (take (i + 1) axioms) new
IsNormalForm-more axioms i a old new within at is gains =
    let long : length (take i axioms) ≡ i = omega (arith, length-take i axioms, within) in
    subst (λ l. IsNormalForm l new) (sym (take_more axioms i a within ∙ ap (λ x. take i axioms ++ x ∷ []) (sym at)))
    (IsNormalForm-push (take i axioms) a old new is (subst (λ n. Gains n (axiom_rows a) old new) (sym long) gains))

pub IsNormalForm-none : (old : Normal) → old.roles ≡ [] → old.concepts ≡ [] → old.negatives ≡ [] → IsNormalForm [] old
IsNormalForm-none old e f g = record { roles = e; concepts = f; negatives = g }

-- ---- the negatives beside their axioms

-- what stands behind as many items as a list has
slice_get-middle : {A : Type 0} (xs ys : List A) (y : A) → slice_get (xs ++ y ∷ ys) (length xs) ≡ Some y
slice_get-middle [] ys y = refl
slice_get-middle (x ∷ xs) ys y = slice_get-middle xs ys y

module _ (all : List Axiom) where
  abbrev axiom_at : ℕ × Negative → Option Axiom × Negative
  axiom_at p = (slice_get all p.0, p.1)

  beside_one : (k : ℕ) (a : Axiom) (ns : List Negative) → slice_get all k ≡ Some a
      → map axiom_at (map (λ n. (k, n)) ns) ≡ map (λ n. (Some a, n)) ns
  beside_one k a [] e = refl
  beside_one k a (n ∷ ns) e = ap₂ (λ x l. (x, n) ∷ l) e (beside_one k a ns e)

  beside_rest : (before rest : List Axiom) → all ≡ before ++ rest
      → map axiom_at (flat_map indexed_negatives (enumerate_from (length before) rest)) ≡ flat_map axiom_negatives rest
  beside_rest before [] e = refl
  beside_rest before (a ∷ rest) e =
      let ns = filter_map as_negative (axiom_rows a) in
      let at : slice_get all (length before) ≡ Some a = ap (λ l. slice_get l (length before)) e ∙ slice_get-middle before rest a in
      let long : length before + 1 ≡ length (before ++ a ∷ []) = sym (length-append before (a ∷ [])) in
      map-append axiom_at (indexed_negatives (length before, a)) (flat_map indexed_negatives (enumerate_from (length before + 1) rest))
      ∙ ap₂ (λ x y. x ++ y) (beside_one (length before) a ns at)
      (ap (λ k. map axiom_at (flat_map indexed_negatives (enumerate_from k rest))) long
      ∙ beside_rest (before ++ a ∷ []) rest (e ∙ sym (append_assoc before (a ∷ []) rest)))

-- the axioms at the indexes, with the negatives, are those of the definition
pub negatives-beside : (axioms : List Axiom)
    → map (λ p. (slice_get axioms p.0, p.1)) (negatives_by_index axioms) ≡ negatives axioms None
negatives-beside axioms = beside_rest axioms [] axioms refl ∙ sym (append-nil (flat_map axiom_negatives axioms))
