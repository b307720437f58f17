use Rattle.std.proofs.Common.{◌≡◌, ◌⊎◌, List, Contains, inl, inr, sym, subst, ◌∙◌}
use Rattle.std.specs.List.Sorted.{IsStrictlySortedBy}
use Rattle.dl_terms.specs.Order.{role_cmp}
use Rattle.dl_terms.specs.Below.{ConceptBelow}
use Rattle.dl_terms.specs.declared.role.Role.{Role}
use Rattle.dl_terms.specs.declared.role.Basic.TheVariants.{Class, SomeOf}
use Rattle.dl_terms.specs.declared.axiom.Axiom.{Axiom}
use Rattle.dl_reach.specs.Digraph.{Digraph}
use Rattle.dl_hier.specs.Predicates.{Predicates, roles, basics}
use Rattle.dl_hier.specs.Hierarchy.{IsHierarchyOf}
use Rattle.dl_hier.specs.Graphs.{hierarchy_over, AreGraphsOf}
use Rattle.dl_hier.proofs.PredicateLemmas.{roles-ascend, some-known}
use Rattle.dl_hier.proofs.QueryLemmas.{roles_known, ends_known, one_of_basics}
use Rattle.dl_hier.proofs.hier.Hier.roles.Goals as goal

pub returns-clause-ascending : goal.returns-clause-ascending
returns-clause-ascending c =
    subst (IsStrictlySortedBy role_cmp) (sym (c.as_slice.ensures ∙ c.self.invariant.graphs.listed)) (roles-ascend c.self.inside.nodes c.self.invariant.graphs.order)

pub returns-clause-known : goal.returns-clause-known
returns-clause-known c = λ axioms of r s h.
    subst (λ l. (r ≡ s) ⊎ (Contains l r × Contains l s)) (sym (c.as_slice.ensures ∙ c.self.invariant.graphs.listed))
    (roles_known c.self.inside.nodes c.self.inside.roles c.self.inside.role_ways.graph c.self.inside.basic_ways.graph c.self.invariant.graphs axioms
    (subst (λ h. IsHierarchyOf h axioms) (sym c.self.view_is) of) r s h)

-- what is below or above "some r" as "some s" is a role of the hierarchy, or the same
some_known : (p : Predicates) (list : List Role) (of_roles of_basics : Digraph) → AreGraphsOf p list of_roles of_basics → (axioms : List Axiom)
    → IsHierarchyOf (hierarchy_over p of_roles of_basics) axioms → (r s : Role) → ConceptBelow axioms (SomeOf r) (SomeOf s)
    → (r ≡ s) ⊎ (Contains (roles p) r × Contains (roles p) s)
some_known p list of_roles of_basics are axioms of r s h =
    elim (ends_known (Class 0) (basics p) of_basics.edges are.basic_ends (one_of_basics p list of_roles of_basics are)
    ((of.concepts (SomeOf r) (SomeOf s)).0 h)) [
      | inl e ↦ inl (same_role r s e)
      | inr k ↦ inr (some-known p r k.0, some-known p s k.1)
    ]
  where
    same_role : (r s : Role) → SomeOf r ≡ SomeOf s → r ≡ s
    same_role r s e = cc

pub returns-clause-known_by_concepts : goal.returns-clause-known_by_concepts
returns-clause-known_by_concepts c = λ axioms of r s h.
    subst (λ l. (r ≡ s) ⊎ (Contains l r × Contains l s)) (sym (c.as_slice.ensures ∙ c.self.invariant.graphs.listed))
    (some_known c.self.inside.nodes c.self.inside.roles c.self.inside.role_ways.graph c.self.inside.basic_ways.graph c.self.invariant.graphs axioms
    (subst (λ h. IsHierarchyOf h axioms) (sym c.self.view_is) of) r s h)
