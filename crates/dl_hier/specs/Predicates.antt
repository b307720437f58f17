-- The predicates of a hierarchy, and its roles and basic concepts in order. Their limit is this project's own.
use Rattle.std.specs.Prelude.{ℕ, ◌+◌, ◌≤◌, true, false, List, [], ◌∷◌, ◌++◌, map, length, All}
use Rattle.std.specs.List.{flat_map}
use Rattle.std.specs.List.Sorted.{IsStrictlySortedBy}
use Rattle.std.specs.Ordering.{nat_cmp}
use Rattle.dl_terms.specs.Order.{base_cmp}
use Rattle.dl_terms.specs.declared.role.Base.{Base}
use Rattle.dl_terms.specs.declared.role.Base.TheVariants.{Named, Auxiliary}
use Rattle.dl_terms.specs.declared.role.Role.{Role}
use Rattle.dl_terms.specs.declared.role.Basic.{Basic}
use Rattle.dl_terms.specs.declared.role.Basic.TheVariants.{Class, SomeOf}

-- the classes and object properties of a signature, and the auxiliary roles of a normal form
pub record Predicates : Type 0 where
  pub classes : List ℕ
  pub properties : List ℕ
  pub auxiliaries : List Base

-- the most classes, object properties and auxiliary roles together
abbrev pub max_predicates : ℕ
max_predicates = 4096

-- a role name as a role, plain and inverse
abbrev pub both_ways : Base → List Role
both_ways b = record { base = b; inverse = false } ∷ record { base = b; inverse = true } ∷ []

-- the role names: of properties and of auxiliary roles
abbrev pub bases : Predicates → List Base
bases p = map Named p.properties ++ p.auxiliaries

-- the roles, each role name plain and inverse
abbrev pub roles : Predicates → List Role
roles p = flat_map both_ways (bases p)

-- the basic concepts: the classes, and "some r" for each role r
abbrev pub basics : Predicates → List Basic
basics p = map Class p.classes ++ map SomeOf (roles p)

abbrev pub IsAuxiliary : Base → Type 0
IsAuxiliary (Named p) = ⊥
IsAuxiliary (Auxiliary p i c) = Unit {0}

-- each list ascends strictly, and together they are few
pub record AreInOrder (p : Predicates) : Type 0 where
  pub classes : IsStrictlySortedBy nat_cmp p.classes
  pub properties : IsStrictlySortedBy nat_cmp p.properties
  pub auxiliaries : IsStrictlySortedBy base_cmp p.auxiliaries
  pub only_auxiliaries : All IsAuxiliary p.auxiliaries
  pub few : length p.classes + length p.properties + length p.auxiliaries ≤ max_predicates
