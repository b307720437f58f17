-- Axioms without auxiliary roles, and rows: an auxiliary role stands in the normal form alone. Auxiliary roles are
-- this project's own.
use Rattle.std.specs.Prelude.{ℕ}
use Rattle.std.specs.List.{All, Contains}
use Rattle.dl_terms.specs.NormalForm.{Row, role_in, concept_in, never, part_rows}
use Rattle.dl_terms.specs.declared.role.Base.{Base}
use Rattle.dl_terms.specs.declared.role.Base.TheVariants.{Named, Auxiliary}
use Rattle.dl_terms.specs.declared.role.Role.{Role}
use Rattle.dl_terms.specs.declared.role.Basic.{Basic}
use Rattle.dl_terms.specs.declared.role.Basic.TheVariants as basic
use Rattle.dl_terms.specs.declared.role.Negative.{Negative}
use Rattle.dl_terms.specs.declared.role.Negative.TheVariants.{Basics, Roles, NoLoop}
use Rattle.dl_terms.specs.declared.axiom.Part.{Part}
use Rattle.dl_terms.specs.declared.axiom.Part.TheVariants as part
use Rattle.dl_terms.specs.declared.axiom.Axiom.{Axiom}
use Rattle.dl_terms.specs.declared.axiom.Axiom.TheVariants.{SubClass, EquivalentClasses, DisjointClasses, SubRole, EquivalentRoles, DisjointRoles, InverseRoles, Domain, Range, Symmetric, Asymmetric, Irreflexive}

-- a role name of the input
abbrev pub IsNamed : Base → Type 0
IsNamed (Named p) = Unit {0}
IsNamed (Auxiliary p i c) = ⊥

abbrev pub RoleHasNoAuxiliary : Role → Type 0
RoleHasNoAuxiliary r = IsNamed r.base

abbrev pub BasicHasNoAuxiliary : Basic → Type 0
BasicHasNoAuxiliary (basic.Class c) = Unit {0}
BasicHasNoAuxiliary (basic.SomeOf r) = RoleHasNoAuxiliary r

abbrev pub PartHasNoAuxiliary : Part → Type 0
PartHasNoAuxiliary part.Thing = Unit {0}
PartHasNoAuxiliary (part.Class c) = Unit {0}
PartHasNoAuxiliary (part.Any r) = RoleHasNoAuxiliary r
PartHasNoAuxiliary (part.Fill r c) = RoleHasNoAuxiliary r
PartHasNoAuxiliary (part.Not b) = BasicHasNoAuxiliary b

-- no role of an axiom is an auxiliary role or the inverse of one
abbrev pub HasNoAuxiliary : Axiom → Type 0
HasNoAuxiliary (SubClass b ps) = BasicHasNoAuxiliary b × All PartHasNoAuxiliary ps
HasNoAuxiliary (EquivalentClasses bs) = All BasicHasNoAuxiliary bs
HasNoAuxiliary (DisjointClasses bs) = All BasicHasNoAuxiliary bs
HasNoAuxiliary (SubRole r s) = RoleHasNoAuxiliary r × RoleHasNoAuxiliary s
HasNoAuxiliary (EquivalentRoles rs) = All RoleHasNoAuxiliary rs
HasNoAuxiliary (DisjointRoles rs) = All RoleHasNoAuxiliary rs
HasNoAuxiliary (InverseRoles r s) = RoleHasNoAuxiliary r × RoleHasNoAuxiliary s
HasNoAuxiliary (Domain r ps) = RoleHasNoAuxiliary r × All PartHasNoAuxiliary ps
HasNoAuxiliary (Range r ps) = RoleHasNoAuxiliary r × All PartHasNoAuxiliary ps
HasNoAuxiliary (Symmetric r) = RoleHasNoAuxiliary r
HasNoAuxiliary (Asymmetric r) = RoleHasNoAuxiliary r
HasNoAuxiliary (Irreflexive r) = RoleHasNoAuxiliary r

abbrev pub NegativeHasNoAuxiliary : Negative → Type 0
NegativeHasNoAuxiliary (Basics b c) = BasicHasNoAuxiliary b × BasicHasNoAuxiliary c
NegativeHasNoAuxiliary (Roles r s) = RoleHasNoAuxiliary r × RoleHasNoAuxiliary s
NegativeHasNoAuxiliary (NoLoop r) = RoleHasNoAuxiliary r

-- no role of a row of the normal form is an auxiliary role or the inverse of one
abbrev pub RowHasNoAuxiliary : Row → Type 0
RowHasNoAuxiliary (role_in r s) = RoleHasNoAuxiliary r × RoleHasNoAuxiliary s
RowHasNoAuxiliary (concept_in b c) = BasicHasNoAuxiliary b × BasicHasNoAuxiliary c
RowHasNoAuxiliary (never n) = NegativeHasNoAuxiliary n

-- one of the rows that say "some r in C" of a basic concept; neither it nor r is over an auxiliary role
pub record IsFilled (row : Row) : Type 0 where
  pub basic : Basic
  pub role : Role
  pub class : ℕ
  pub basic_named : BasicHasNoAuxiliary basic
  pub role_named : RoleHasNoAuxiliary role
  pub is_row : Contains (part_rows basic (part.Fill role class)) row
