use Rattle.std.proofs.Common.{sym, subst, refl}
use Rattle.dl_hier.specs.Hierarchy.{IsHierarchyOf}
use Rattle.dl_hier.proofs.MemberLemmas.{StandsAt-Contains}
use Rattle.dl_hier.proofs.QueryLemmas.{role_known, role_from_unknown, role_to_unknown}
use Rattle.dl_hier.proofs.hier.Hier.role_below.Goals as goal

pub returns-in-Some-role : goal.returns-in-Some-role
returns-in-Some-role c = λ axioms of.
    role_known c.self.inside.nodes c.self.inside.roles c.self.inside.role_ways.graph c.self.inside.basic_ways.graph c.self.invariant.graphs axioms (subst (λ h. IsHierarchyOf h axioms) (sym c.self.view_is) of) c.has.result c.in-Some.ensures c.in-Some-role.ensures c.has.ensures

pub returns-in-None-role : goal.returns-in-None-role
returns-in-None-role c = λ axioms of.
    role_to_unknown c.self.inside.nodes c.self.inside.roles c.self.inside.role_ways.graph c.self.inside.basic_ways.graph c.self.invariant.graphs axioms (subst (λ h. IsHierarchyOf h axioms) (sym c.self.view_is) of) _ refl (StandsAt-Contains c.in-Some.ensures) c.in-None-role.ensures

pub returns-in-None : goal.returns-in-None
returns-in-None c = λ axioms of.
    role_from_unknown c.self.inside.nodes c.self.inside.roles c.self.inside.role_ways.graph c.self.inside.basic_ways.graph c.self.invariant.graphs axioms (subst (λ h. IsHierarchyOf h axioms) (sym c.self.view_is) of) c.are_same_roles.result c.in-None.ensures c.are_same_roles.ensures
