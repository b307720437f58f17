-- The pairs of role and class for which a normal form has an auxiliary role. Auxiliary roles are this project's own.
use Rattle.std.specs.Prelude.{◌≡◌, ◌≢◌, ◌↔◌, ◌⊎◌, ℕ, List, [], ◌∷◌, ◌++◌, map, length, Contains, AllPairs}
use Rattle.std.specs.List.{flat_map, filter_map}
use Rattle.std.specs.declared.option.Option.{Option}
use Rattle.std.specs.declared.option.Option.TheVariants.{Some, None}
use Rattle.dl_terms.specs.Roles.{auxiliary_of}
use Rattle.dl_terms.specs.Auxiliaries.{IsNamed}
use Rattle.dl_terms.specs.NormalForm.{Row, role_in, concept_in, never}
use Rattle.dl_terms.specs.declared.role.Base.{Base}
use Rattle.dl_terms.specs.declared.role.Role.{Role}
use Rattle.dl_terms.specs.declared.role.Basic.{Basic}
use Rattle.dl_terms.specs.declared.role.Basic.TheVariants as basic
use Rattle.dl_terms.specs.declared.role.Negative.{Negative}
use Rattle.dl_terms.specs.declared.role.Negative.TheVariants.{Basics, Roles, NoLoop}
use Rattle.dl_terms.specs.declared.axiom.Part.{Part}
use Rattle.dl_terms.specs.declared.axiom.Part.TheVariants as part
use Rattle.dl_terms.specs.declared.axiom.Axiom.{Axiom}
use Rattle.dl_terms.specs.declared.axiom.Axiom.TheVariants.{SubClass, Domain, Range}

-- the parts of the right side of an axiom, where it has them
abbrev pub parts_of : Axiom → List Part
parts_of (SubClass b ps) = ps
parts_of (Domain r ps) = ps
parts_of (Range r ps) = ps
parts_of a = []

-- the role and the class of "some role in class"
abbrev pub filled : Part → Option (Role × ℕ)
filled (part.Fill r c) = Some (r, c)
filled p = None

-- those of all parts of the axioms, as often as they stand there
abbrev pub filled_pairs : List Axiom → List (Role × ℕ)
filled_pairs axioms = filter_map filled (flat_map parts_of axioms)

-- so many different items are in a list: as long is a list of exactly these, each once
pub record HasDistinct {A : Type 0} (items : List A) (count : ℕ) : Type 0 where
  pub set : List A
  pub each_once : AllPairs (λ x y. x ≢ y) set
  pub members : (x : A) → Contains set x ↔ Contains items x
  pub as_many : length set ≡ count

-- the role names of a row
abbrev pub basic_bases : Basic → List Base
basic_bases (basic.Class c) = []
basic_bases (basic.SomeOf r) = r.base ∷ []

abbrev pub negative_bases : Negative → List Base
negative_bases (Basics b c) = basic_bases b ++ basic_bases c
negative_bases (Roles r s) = r.base ∷ s.base ∷ []
negative_bases (NoLoop r) = r.base ∷ []

abbrev pub row_bases : Row → List Base
row_bases (role_in r s) = r.base ∷ s.base ∷ []
row_bases (concept_in b c) = basic_bases b ++ basic_bases c
row_bases (never n) = negative_bases n

-- the role name is one of the input, or the auxiliary role of a pair of role and class in a part of the axioms
abbrev pub IsOfAxioms : List Axiom → Base → Type 0
IsOfAxioms axioms b = IsNamed b ⊎ Contains (map (λ p. (auxiliary_of p.0 p.1).base) (filled_pairs axioms)) b
