use Rattle.std.proofs.Common.{sym, subst, refl}
use Rattle.dl_hier.specs.Hierarchy.{IsHierarchyOf}
use Rattle.dl_hier.proofs.MemberLemmas.{StandsAt-Contains}
use Rattle.dl_hier.proofs.QueryLemmas.{basic_known, basic_from_unknown, basic_to_unknown}
use Rattle.dl_hier.proofs.hier.Hier.basic_below.Goals as goal

pub returns-in-Some-basic : goal.returns-in-Some-basic
returns-in-Some-basic c = λ axioms of.
    basic_known c.self.inside.nodes c.self.inside.roles c.self.inside.role_ways.graph c.self.inside.basic_ways.graph c.self.invariant.graphs axioms (subst (λ h. IsHierarchyOf h axioms) (sym c.self.view_is) of) c.has.result c.in-Some.ensures c.in-Some-basic.ensures c.has.ensures

pub returns-in-None-basic : goal.returns-in-None-basic
returns-in-None-basic c = λ axioms of.
    basic_to_unknown c.self.inside.nodes c.self.inside.roles c.self.inside.role_ways.graph c.self.inside.basic_ways.graph c.self.invariant.graphs axioms (subst (λ h. IsHierarchyOf h axioms) (sym c.self.view_is) of) _ refl (StandsAt-Contains c.in-Some.ensures) c.in-None-basic.ensures

pub returns-in-None : goal.returns-in-None
returns-in-None c = λ axioms of.
    basic_from_unknown c.self.inside.nodes c.self.inside.roles c.self.inside.role_ways.graph c.self.inside.basic_ways.graph c.self.invariant.graphs axioms (subst (λ h. IsHierarchyOf h axioms) (sym c.self.view_is) of) c.are_same_basics.result c.in-None.ensures c.are_same_basics.ensures
