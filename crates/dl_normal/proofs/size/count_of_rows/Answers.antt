use Rattle.std.proofs.Common.{◌≡◌, ℕ, List, inl, inr, flat_map, ◌-◌, ◌*◌, ◌/◌, ◌^◌, ◌∙◌, sym, ap, min, length, arith}
use Rattle.std.proofs.lemmas.List.{length-map}
use Rattle.dl_terms.specs.NormalForm.{ring, pairs, part_rows, axiom_rows, concept_in, role_in, never}
use Rattle.dl_terms.specs.Roles.{inverse_of}
use Rattle.dl_terms.specs.declared.role.Basic.{Basic}
use Rattle.dl_terms.specs.declared.role.Basic.TheVariants.{SomeOf}
use Rattle.dl_terms.specs.declared.axiom.Part.{Part}
use Rattle.dl_terms.specs.declared.axiom.Axiom.{Axiom}
use Rattle.dl_terms.specs.declared.role.Negative.TheVariants.{Basics, Roles}
use Rattle.dl_normal.proofs.OperandLemmas.{length-ring, length-pairs}
use Rattle.dl_normal.proofs.size.count_of_rows.Goals as goal

pub returns-in-EquivalentClasses : goal.returns-in-EquivalentClasses
returns-in-EquivalentClasses c =
    let xs = c.in-EquivalentClasses.classes in
    let rows : length (axiom_rows c.args.axiom.now) ≡ length xs =
    ap (λ a. length (axiom_rows a)) c.in-EquivalentClasses.is ∙ length-map (ring xs) (λ p. concept_in p.0 p.1) ∙ length-ring xs in
    omega (arith, rows, c.len.ensures)

pub returns-in-DisjointClasses : goal.returns-in-DisjointClasses
returns-in-DisjointClasses c =
    let xs = c.in-DisjointClasses.classes in
    let rows : length (axiom_rows c.args.axiom.now) ≡ length xs * (length xs - 1) / 2 =
    ap (λ a. length (axiom_rows a)) c.in-DisjointClasses.is ∙ length-map (pairs xs) (λ p. never (Basics p.0 p.1)) ∙ length-pairs xs in
    c.count_of_pairs.ensures ∙ ap (λ n. min (n * (n - 1) / 2) (2 ^ 64 - 1)) c.len-in-DisjointClasses.ensures
    ∙ ap (λ n. min n (2 ^ 64 - 1)) (sym rows)

pub returns-in-EquivalentRoles : goal.returns-in-EquivalentRoles
returns-in-EquivalentRoles c =
    let xs = c.in-EquivalentRoles.roles in
    let rows : length (axiom_rows c.args.axiom.now) ≡ length xs =
    ap (λ a. length (axiom_rows a)) c.in-EquivalentRoles.is ∙ length-map (ring xs) (λ p. role_in p.0 p.1) ∙ length-ring xs in
    omega (arith, rows, c.len-in-EquivalentRoles.ensures)

pub returns-in-DisjointRoles : goal.returns-in-DisjointRoles
returns-in-DisjointRoles c =
    let xs = c.in-DisjointRoles.roles in
    let rows : length (axiom_rows c.args.axiom.now) ≡ length xs * (length xs - 1) / 2 =
    ap (λ a. length (axiom_rows a)) c.in-DisjointRoles.is ∙ length-map (pairs xs) (λ p. never (Roles p.0 p.1)) ∙ length-pairs xs in
    c.count_of_pairs-in-DisjointRoles.ensures ∙ ap (λ n. min (n * (n - 1) / 2) (2 ^ 64 - 1)) c.len-in-DisjointRoles.ensures
    ∙ ap (λ n. min n (2 ^ 64 - 1)) (sym rows)

-- the rows of an axiom with parts on its right side
of_parts : (a : Axiom) (b : Basic) (parts slice : List Part) (count : ℕ) → axiom_rows a ≡ flat_map (part_rows b) parts
    → count ≡ min (length (flat_map (part_rows b) slice)) (2 ^ 64 - 1) → slice ≡ parts → count ≡ min (length (axiom_rows a)) (2 ^ 64 - 1)
of_parts a b parts slice count rows counted same =
    counted ∙ ap (λ l. min (length (flat_map (part_rows b) l)) (2 ^ 64 - 1)) same ∙ ap (λ l. min (length l) (2 ^ 64 - 1)) (sym rows)

pub returns-in-SubClass : goal.returns-in-SubClass
returns-in-SubClass c =
    elim c.in-SubClass.is [
      | inl w ↦ of_parts c.args.axiom.now w.0 c.in-SubClass.sup c.as_slice.result.now _ (ap axiom_rows w.1) (c.count_of_part_rows.ensures w.0) c.as_slice.ensures
      | inr v ↦ elim v [
        | inl w ↦ of_parts c.args.axiom.now (SomeOf w.0) c.in-SubClass.sup c.as_slice.result.now _ (ap axiom_rows w.1) (c.count_of_part_rows.ensures (SomeOf w.0)) c.as_slice.ensures
        | inr w ↦ of_parts c.args.axiom.now (SomeOf (inverse_of w.0)) c.in-SubClass.sup c.as_slice.result.now _ (ap axiom_rows w.1) (c.count_of_part_rows.ensures (SomeOf (inverse_of w.0))) c.as_slice.ensures
      ]
    ]
