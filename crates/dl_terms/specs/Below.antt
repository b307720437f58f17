-- Role below and basic concept below: chains of inclusion steps (DL-Lite_R).
use Rattle.std.specs.Prelude.{List}
use Rattle.std.specs.List.{Contains}
use Rattle.dl_terms.specs.Chain.{Chain}
use Rattle.dl_terms.specs.Roles.{inverse_of}
use Rattle.dl_terms.specs.NormalForm.{role_inclusions, concept_inclusions}
use Rattle.dl_terms.specs.declared.role.Role.{Role}
use Rattle.dl_terms.specs.declared.role.Basic.{Basic}
use Rattle.dl_terms.specs.declared.role.Basic.TheVariants.{SomeOf}
use Rattle.dl_terms.specs.declared.axiom.Axiom.{Axiom}

-- a role inclusion, or one with both sides inverted
pub data RoleStep (axioms : List Axiom) (r s : Role) : Type 0 where
  inclusion : Contains (role_inclusions axioms) (r, s) → RoleStep axioms r s
  inverted : Contains (role_inclusions axioms) (inverse_of r, inverse_of s) → RoleStep axioms r s

-- r is below s
abbrev pub RoleBelow : List Axiom → Role → Role → Type 0
RoleBelow axioms = Chain (RoleStep axioms)

-- a concept inclusion, or from "some r" to "some s" with r below s
pub data ConceptStep (axioms : List Axiom) : Basic → Basic → Type 0 where
  inclusion : {b c : Basic} → Contains (concept_inclusions axioms) (b, c) → ConceptStep axioms b c
  some_of : {r s : Role} → RoleBelow axioms r s → ConceptStep axioms (SomeOf r) (SomeOf s)

-- B is below C
abbrev pub ConceptBelow : List Axiom → Basic → Basic → Type 0
ConceptBelow axioms = Chain (ConceptStep axioms)
