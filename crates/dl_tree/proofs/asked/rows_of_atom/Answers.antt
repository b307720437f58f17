use Rattle.std.proofs.Common.{◌≡◌, ◌↔◌, ◌<◌, ◌∙◌, true, sym, ap, subst}
use Rattle.dl_terms.specs.Roles.{inverse_of}
use Rattle.dl_terms.specs.Below.{RoleBelow}
use Rattle.dl_reach.specs.Rows.{row_has}
use Rattle.dl_hier.specs.Predicates.{roles}
use Rattle.dl_hier.proofs.QueryLemmas.{then}
use Rattle.dl_tree.specs.Rows.{role_at}
use Rattle.dl_tree.specs.TestsOf.{IsTestOf}
use Rattle.dl_tree.specs.declared.atoms.AtomTest.TheVariants.{Is, Link}
use Rattle.dl_tree.proofs.asked.rows_of_atom.Goals as goal

pub returns-in_ok-list_of-in-Is : goal.returns-in_ok-list_of-in-Is
returns-in_ok-list_of-in-Is c = λ axioms of i l.
    let t = role_at (roles c.args.hier.now.predicates) i in
    let place = subst (λ n. i < n) (sym c.requires.places) l in
    subst (λ a. IsTestOf axioms c.args.variables.now t a (Is c.bit_of.result (row_has c.in_ok-list_of-in-Is.field-0 i))) (sym c.in-Is.is)
    (c.bit_of.ensures, then (c.in_ok-list_of-in-Is.ensures.each i place) (c.bits_leading.ensures axioms of i l))

pub returns-in_ok-list_of-in-Link-2 : goal.returns-in_ok-list_of-in-Link-2
returns-in_ok-list_of-in-Link-2 c = λ axioms of i l.
    let t = role_at (roles c.args.hier.now.predicates) i in
    let place = subst (λ n. i < n) (sym c.requires.places) l in
    subst (λ a. IsTestOf axioms c.args.variables.now t a (Link c.bit_of-in-Link.result c.bit_of-in-Link-2.result
    (row_has c.in_ok-list_of-in-Link.field-0 i) (row_has c.in_ok-list_of-in-Link-2.field-0 i))) (sym c.in-Link.is) (
      c.bit_of-in-Link.ensures,
      c.bit_of-in-Link-2.ensures,
      then (c.in_ok-list_of-in-Link.ensures.each i place)
          (subst (λ r. (row_has c.bits_below.result.now i ≡ true) ↔ RoleBelow axioms t r) (c.inverse.ensures ∙ ap inverse_of c.named.ensures)
          (c.bits_below.ensures axioms of i l)),
      then (c.in_ok-list_of-in-Link-2.ensures.each i place)
          (subst (λ r. (row_has c.bits_below-in-Link.result.now i ≡ true) ↔ RoleBelow axioms t r) c.named-in-Link.ensures
          (c.bits_below-in-Link.ensures axioms of i l)),
    )
