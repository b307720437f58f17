use Rattle.std.proofs.Common.{◌≡◌, Contains, ap, sym, subst, ◌∙◌}
use Rattle.dl_hier.specs.Predicates.{Predicates, AreInOrder, IsAuxiliary, bases}
use Rattle.dl_hier.specs.Nodes.{StandsAt}
use Rattle.dl_hier.proofs.PredicateLemmas.{found, property-known, auxiliary-known, base-at_property}
use Rattle.dl_hier.proofs.nodes.Nodes.base.Goals as goal

pub returns-in-Named-clause-index : goal.returns-in-Named-clause-index
returns-in-Named-clause-index c =
    let p = c.args.self.now in
    let order = subst AreInOrder c.self.view_is c.self.invariant in
    let name = c.in-Named.name in
    found c.index_of.result c.as_slice.result.now p.properties name (bases p) c.args.base
    (c.as_slice.ensures ∙ ap (λ (q : Predicates). q.properties) c.self.view_is)
    (λ h. property-known p order name (subst (Contains (bases p)) c.in-Named.is h))
    (λ i s. subst (StandsAt (bases p) i) (sym c.in-Named.is) (base-at_property p i name s)) c.index_of.ensures

pub returns-in-None-clause-index : goal.returns-in-None-clause-index
returns-in-None-clause-index c =
    let p = c.args.self.now in
    let same : c.as_slice-in-Auxiliary.result.now ≡ p.auxiliaries = c.as_slice-in-Auxiliary.ensures ∙ ap (λ (q : Predicates). q.auxiliaries) c.self.view_is in
    λ h. c.in-None.ensures (subst (λ l. Contains l c.args.base) (sym same) (auxiliary-known p c.args.base (subst IsAuxiliary (sym c.in-Auxiliary.is) tt) h))
