use Rattle.std.proofs.Common.{◌∷◌, ◌∙◌, sym, ap, subst, get_or, rules}
use Rattle.std.specs.List.{All, Contains}
use Rattle.dl_terms.specs.declared.query.Atom.TheVariants.{Is, Link}
use Rattle.dl_models.specs.Meaning.{StandsFor}
use Rattle.dl_models.specs.Structures.{finite}
use Rattle.dl_models.specs.Values.{CanAgree}
use Rattle.dl_models.proofs.LoopLemmas.{fails}
use Rattle.dl_models.proofs.ValueLemmas.{adds-true, adds-false}
use Rattle.dl_models.proofs.MatchLemmas.{pair-member, triple-member, atom-first, class-found, class-more, class-none, role-found, role-more, role-none, with-not, with-more}
use Rattle.dl_models.proofs.queries.+search.Goals as goal

pub holds_from-returns-in-Is : goal.holds_from-returns-in-Is
holds_from-returns-in-Is t c =
    atom-first c.args.model.now c.holds_in_class.result c.args.values.now c.args.atoms.now (Is c.in-Is.class c.in-Is.at) c.in-Some.rest.now
    (c.in-Some.ensures.cases.0 ∙ ap (λ a. a ∷ c.in-Some.rest.now) c.in-Is.is) c.holds_in_class.ensures

pub holds_from-returns-in-Link : goal.holds_from-returns-in-Link
holds_from-returns-in-Link t c =
    atom-first c.args.model.now c.holds_in_role.result c.args.values.now c.args.atoms.now (Link c.in-Link.role c.in-Link.from c.in-Link.to) c.in-Some.rest.now
    (c.in-Some.ensures.cases.0 ∙ ap (λ a. a ∷ c.in-Some.rest.now) c.in-Link.is) c.holds_in_role.ensures

pub holds_in_class-returns-then-branch : goal.holds_in_class-returns-then-branch
holds_in_class-returns-then-branch t c =
    let items = c.as_slice-known-items.result.now in
    let item = get_or items c.loop-known.known-index (0, 0) in
    class-found c.args.model.now c.args.values.now c.args.class c.args.at item.1 c.args.atoms.now c.in_ok-holds_with.field-0 c.if-branch.true c.in_ok-holds_with.ensures
    (subst (λ l. Contains l (c.args.class, item.1)) c.as_slice-known-items.ensures
    (pair-member items c.loop-known.known-index c.args.class c.loop-known-test.true c.if-known-class.false))

pub holds_in_class-loop-known-preserved : goal.holds_in_class-loop-known-preserved
holds_in_class-loop-known-preserved t c =
    class-more c.args.model.now c.args.values.now c.as_slice-known-items.result.now c.args.class c.args.at c.args.atoms.now c.loop-known.known-index (0, 0) c.loop-known-test.true
    c.loop-known.invariant (fails c.in_ok-holds_with.field-0 c.in_ok-holds_with.ensures c.if-branch.false)

pub holds_in_class-returns : goal.holds_in_class-returns
holds_in_class-returns t c =
    class-none c.args.model.now c.args.values.now c.as_slice-known-items.result.now c.args.class c.args.at c.args.atoms.now c.loop-known.known-index c.as_slice-known-items.ensures
    c.loop-known-test.false c.loop-known.invariant

pub holds_in_role-returns-then-branch : goal.holds_in_role-returns-then-branch
holds_in_role-returns-then-branch t c =
    let items = c.as_slice-known-items.result.now in
    let item = get_or items c.loop-known.known-index (0, 0, 0) in
    role-found c.args.model.now c.args.values.now c.args.role c.args.ends.0 c.args.ends.1 item.1 item.2 c.args.atoms.now c.in_ok-holds_with.field-0 c.if-branch.true
    c.in_ok-holds_with.ensures
    (subst (λ l. Contains l (c.args.role, item.1, item.2)) c.as_slice-known-items.ensures
    (triple-member items c.loop-known.known-index c.args.role c.loop-known-test.true c.if-known-role.false))

pub holds_in_role-loop-known-preserved : goal.holds_in_role-loop-known-preserved
holds_in_role-loop-known-preserved t c =
    role-more c.args.model.now c.args.values.now c.as_slice-known-items.result.now c.args.role c.args.ends.0 c.args.ends.1 c.args.atoms.now c.loop-known.known-index (0, 0, 0)
    c.loop-known-test.true c.loop-known.invariant (fails c.in_ok-holds_with.field-0 c.in_ok-holds_with.ensures c.if-branch.false)

pub holds_in_role-returns : goal.holds_in_role-returns
holds_in_role-returns t c =
    role-none c.args.model.now c.args.values.now c.as_slice-known-items.result.now c.args.role c.args.ends.0 c.args.ends.1 c.args.atoms.now c.loop-known.known-index
    c.as_slice-known-items.ensures c.loop-known-test.false c.loop-known.invariant

pub holds_with-bind_all-requires : goal.holds_with-bind_all-requires
holds_with-bind_all-requires t c = subst CanAgree (sym c.in_ok-grown.ensures.items) c.requires

pub holds_with-returns-then-not-branch : goal.holds_with-returns-then-not-branch
holds_with-returns-then-not-branch t c =
    with-not c.args.model.now c.args.values.now c.in_ok-grown.grown.items c.args.terms.now c.args.atoms.now c.in_ok-grown.ensures.items
    (adds-false (λ m. All (λ t. StandsFor (finite c.args.model.now) m t.0 t.1) c.args.terms.now) c.in_ok-grown.grown.items c.bind_all.new.values.items
    c.in_ok-bind_all.field-0 c.in_ok-bind_all.ensures c.if-not-branch.true)

pub holds_with-holds_from-requires : goal.holds_with-holds_from-requires
holds_with-holds_from-requires t c = (
  search rules,
  subst CanAgree (sym c.as_slice.ensures.value)
      (adds-true (λ m. All (λ t. StandsFor (finite c.args.model.now) m t.0 t.1) c.args.terms.now) c.in_ok-grown.grown.items c.bind_all.new.values.items
      c.in_ok-bind_all.field-0 c.in_ok-bind_all.ensures c.if-not-branch.false).some,
)

pub holds_with-returns : goal.holds_with-returns
holds_with-returns t c =
    with-more c.args.model.now c.holds_from.result c.args.values.now c.in_ok-grown.grown.items c.bind_all.new.values.items c.as_slice.result.now c.args.terms.now c.args.atoms.now
    c.in_ok-grown.ensures.items c.as_slice.ensures.value
    (adds-true (λ m. All (λ t. StandsFor (finite c.args.model.now) m t.0 t.1) c.args.terms.now) c.in_ok-grown.grown.items c.bind_all.new.values.items
    c.in_ok-bind_all.field-0 c.in_ok-bind_all.ensures c.if-not-branch.false) c.holds_from.ensures
