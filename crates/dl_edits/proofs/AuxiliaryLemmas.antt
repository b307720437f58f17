-- Axioms have no more auxiliary roles than they weigh, and a signature no more names than there are numbers.
use Rattle.std.proofs.Common.{◌≡◌, ℕ, suc, ◌+◌, ◌<◌, ◌≤◌, Bool, true, false, cond, List, [], ◌∷◌, flat_map, filter_map, length, get_or, refl, sym, ap, subst, ◌∙◌, arith, length-append}
use Rattle.std.specs.declared.cmp.Ordering.{Ordering}
use Rattle.std.specs.List.Sorted.{IsStrictlyIncreasing}
use Rattle.std.proofs.lemmas.List.{get_or_default}
use Rattle.std.proofs.lemmas.List.Elements.{filter_map-append}
use Rattle.std.proofs.lemmas.Map.Keys.{sorted_from_strictly_increasing}
use Rattle.std.proofs.lemmas.Map.Views.{length-le_from_below}
use Rattle.std.proofs.lemmas.List.Sums.{sum_by-cons}
use Rattle.dl_terms.specs.Roles.{inverse_of}
use Rattle.dl_terms.specs.NormalForm.{part_rows}
use Rattle.dl_terms.specs.declared.role.Basic.{Basic}
use Rattle.dl_terms.specs.declared.role.Basic.TheVariants as basic
use Rattle.dl_terms.specs.declared.axiom.Part.{Part}
use Rattle.dl_terms.specs.declared.axiom.Part.TheVariants as part
use Rattle.dl_terms.specs.declared.axiom.Axiom.{Axiom}
use Rattle.dl_terms.specs.declared.axiom.Axiom.TheVariants.{SubClass, EquivalentClasses, DisjointClasses, SubRole, EquivalentRoles, DisjointRoles, InverseRoles, Domain, Range, Symmetric, Asymmetric, Irreflexive}
use Rattle.dl_normal.specs.Filled.{parts_of, filled, filled_pairs}
use Rattle.dl_normal.specs.Weight.{axiom_weight, total_weight}
use Rattle.dl_row.specs.Lists.{count, put}
use Rattle.dl_row.proofs.CountLemmas.{count-put}
use Rattle.dl_edits.specs.Sets.{has, with_item, with_items}
use Rattle.dl_edits.specs.Names.{auxiliary_cmp, auxiliaries}

-- ---- no more auxiliary roles than the axioms weigh

pub count_all : {A : Type 0} (xs : List A) → count (λ x. true) xs ≡ length xs
count_all [] = refl
count_all (x ∷ xs) = let ih = count_all xs in omega (arith, ih)

length-with_items : {A : Type 0} (cmp : A → A → Ordering) (ys xs : List A)
    → length (with_items cmp ys xs) ≤ length ys + length xs
length-with_items cmp [] xs = omega arith
length-with_items {A} cmp (y ∷ ys) xs =
    let ih = length-with_items cmp ys (with_item cmp y xs) in
    let one = by (has cmp xs y) in
    omega (arith, ih, one)
  where
    by : (b : Bool) → length (cond b xs (put cmp y xs)) ≤ suc (length xs)
    by true = omega arith
    by false =
        let e = sym (count_all (put cmp y xs)) ∙ count-put (λ x. true) cmp y xs in
        let all = count_all xs in
        omega (arith, e, all)

parts_weigh : (b : Basic) (parts : List Part)
    → length (filter_map filled parts) ≤ length (flat_map (part_rows b) parts)
parts_weigh b [] = omega arith
parts_weigh b (part.Thing ∷ parts) = parts_weigh b parts
parts_weigh b (part.Class c ∷ parts) = let ih = parts_weigh b parts in omega (arith, ih)
parts_weigh b (part.Any r ∷ parts) = let ih = parts_weigh b parts in omega (arith, ih)
parts_weigh b (part.Fill r c ∷ parts) = let ih = parts_weigh b parts in omega (arith, ih)
parts_weigh b (part.Not d ∷ parts) = let ih = parts_weigh b parts in omega (arith, ih)

axiom_weighs : (a : Axiom) → length (filter_map filled (parts_of a)) ≤ axiom_weight a
axiom_weighs (SubClass b ps) = let h = parts_weigh b ps in omega (arith, h)
axiom_weighs (Domain r ps) = let h = parts_weigh (basic.SomeOf r) ps in omega (arith, h)
axiom_weighs (Range r ps) = let h = parts_weigh (basic.SomeOf (inverse_of r)) ps in omega (arith, h)
axiom_weighs (EquivalentClasses bs) = omega arith
axiom_weighs (DisjointClasses bs) = omega arith
axiom_weighs (SubRole r s) = omega arith
axiom_weighs (EquivalentRoles rs) = omega arith
axiom_weighs (DisjointRoles rs) = omega arith
axiom_weighs (InverseRoles r s) = omega arith
axiom_weighs (Symmetric r) = omega arith
axiom_weighs (Asymmetric r) = omega arith
axiom_weighs (Irreflexive r) = omega arith

pairs_weigh : (axioms : List Axiom) → length (filled_pairs axioms) ≤ total_weight axioms
pairs_weigh [] = omega arith
pairs_weigh (a ∷ axioms) =
    let ih = pairs_weigh axioms in
    let one = axiom_weighs a in
    let apart = ap length (filter_map-append filled (parts_of a) (flat_map parts_of axioms)) in
    let both = length-append (filter_map filled (parts_of a)) (filled_pairs axioms) in
    let sum = sum_by-cons axiom_weight a axioms in
    omega (arith, ih, one, apart, both, sum)

pub auxiliaries_weigh : (axioms : List Axiom) → auxiliaries axioms ≤ total_weight axioms
auxiliaries_weigh axioms =
    let all = length-with_items auxiliary_cmp (filled_pairs axioms) [] in
    let some = pairs_weigh axioms in
    omega (arith, all, some)

-- ---- numbers that ascend strictly are no more than there are below their limit

pub few_below : (n : ℕ) (xs : List ℕ) → IsStrictlyIncreasing xs → ((i : ℕ) → get_or xs i 0 < n) → length xs ≤ n
few_below n xs up small =
    length-le_from_below n xs (sorted_from_strictly_increasing xs up)
    (λ k d h. subst (λ x. x < n) (sym (get_or_default xs k d 0 h)) (small k))
