-- A hierarchy: predicates, and steps whose chains are what is below what (role below and concept below of DL-Lite_R).
use Rattle.std.specs.Prelude.{◌↔◌, List, Contains}
use Rattle.dl_terms.specs.Chain.{Chain}
use Rattle.dl_terms.specs.Below.{RoleBelow, ConceptBelow}
use Rattle.dl_terms.specs.declared.role.Role.{Role}
use Rattle.dl_terms.specs.declared.role.Basic.{Basic}
use Rattle.dl_terms.specs.declared.axiom.Axiom.{Axiom}
use Rattle.dl_hier.specs.Predicates.{Predicates}

pub record Hierarchy : Type 0 where
  pub predicates : Predicates
  pub role_steps : List (Role × Role)
  pub concept_steps : List (Basic × Basic)

-- one of the steps leads from the one to the other
abbrev pub IsStep : {A : Type 0} → List (A × A) → A → A → Type 0
IsStep steps a b = Contains steps (a, b)

-- what is below what by the axioms are the chains of the steps
pub record IsHierarchyOf (h : Hierarchy) (axioms : List Axiom) : Type 0 where
  pub roles : (r s : Role) → RoleBelow axioms r s ↔ Chain (IsStep h.role_steps) r s
  pub concepts : (b c : Basic) → ConceptBelow axioms b c ↔ Chain (IsStep h.concept_steps) b c
