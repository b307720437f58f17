-- The normal form of axioms: role inclusions, concept inclusions and negatives, in axiom order (OWL 2 Profiles,
-- OWL 2 QL; the rows with an auxiliary role u of r and C, which say "some r in C" by role inclusions, are this
-- project's own).
use Rattle.std.specs.Prelude.{ℕ, List, [], ◌∷◌, ◌++◌, map}
use Rattle.std.specs.List.{flat_map, filter_map, zip}
use Rattle.std.specs.declared.option.Option.{Option}
use Rattle.std.specs.declared.option.Option.TheVariants.{Some, None}
use Rattle.dl_terms.specs.Roles.{inverse_of, auxiliary_of}
use Rattle.dl_terms.specs.declared.role.Role.{Role}
use Rattle.dl_terms.specs.declared.role.Basic.{Basic}
use Rattle.dl_terms.specs.declared.role.Basic.TheVariants as basic
use Rattle.dl_terms.specs.declared.role.Negative.{Negative}
use Rattle.dl_terms.specs.declared.role.Negative.TheVariants.{Basics, Roles, NoLoop}
use Rattle.dl_terms.specs.declared.axiom.Part.{Part}
use Rattle.dl_terms.specs.declared.axiom.Part.TheVariants as part
use Rattle.dl_terms.specs.declared.axiom.Axiom.{Axiom}
use Rattle.dl_terms.specs.declared.axiom.Axiom.TheVariants.{SubClass, EquivalentClasses, DisjointClasses, SubRole, EquivalentRoles, DisjointRoles, InverseRoles, Domain, Range, Symmetric, Asymmetric, Irreflexive}

-- a row: a role inclusion, a concept inclusion, or a negative, which nothing meets
pub data Row : Type 0 where
  role_in : Role → Role → Row
  concept_in : Basic → Basic → Row
  never : Negative → Row

-- each in the next, and the last in the first
abbrev pub ring : {A : Type 0} → List A → List (A × A)
ring [] = []
ring (x ∷ xs) = zip (x ∷ xs) (xs ++ x ∷ [])

-- each with every later one of the list, whether or not they are the same
abbrev pub pairs : {A : Type 0} → List A → List (A × A)
pairs [] = []
pairs (x ∷ xs) = map (λ y. (x, y)) xs ++ pairs xs

-- that a basic concept is in a part of a right side
abbrev pub part_rows : Basic → Part → List Row
part_rows b part.Thing = []
part_rows b (part.Class c) = concept_in b (basic.Class c) ∷ []
part_rows b (part.Any r) = concept_in b (basic.SomeOf r) ∷ []
part_rows b (part.Fill r c) =
    concept_in b (basic.SomeOf (auxiliary_of r c)) ∷ role_in (auxiliary_of r c) r
    ∷ concept_in (basic.SomeOf (inverse_of (auxiliary_of r c))) (basic.Class c) ∷ []
part_rows b (part.Not d) = never (Basics b d) ∷ []

-- the rows of an axiom, in order
abbrev pub axiom_rows : Axiom → List Row
axiom_rows (SubClass b parts) = flat_map (part_rows b) parts
axiom_rows (EquivalentClasses bs) = map (λ p. concept_in p.0 p.1) (ring bs)
axiom_rows (DisjointClasses bs) = map (λ p. never (Basics p.0 p.1)) (pairs bs)
axiom_rows (SubRole r s) = role_in r s ∷ []
axiom_rows (EquivalentRoles rs) = map (λ p. role_in p.0 p.1) (ring rs)
axiom_rows (DisjointRoles rs) = map (λ p. never (Roles p.0 p.1)) (pairs rs)
axiom_rows (InverseRoles r s) = role_in r (inverse_of s) ∷ role_in (inverse_of s) r ∷ []
axiom_rows (Domain r parts) = flat_map (part_rows (basic.SomeOf r)) parts
axiom_rows (Range r parts) = flat_map (part_rows (basic.SomeOf (inverse_of r))) parts
axiom_rows (Symmetric r) = role_in r (inverse_of r) ∷ []
axiom_rows (Asymmetric r) = never (Roles r (inverse_of r)) ∷ []
axiom_rows (Irreflexive r) = never (NoLoop r) ∷ []

-- the normal form: the rows of all axioms, in axiom order
abbrev pub rows_of : List Axiom → List Row
rows_of axioms = flat_map axiom_rows axioms

-- what a row says as a role inclusion, a concept inclusion, a negative
abbrev pub as_role_in : Row → Option (Role × Role)
as_role_in (role_in r s) = Some (r, s)
as_role_in (concept_in b c) = None
as_role_in (never n) = None

abbrev pub as_concept_in : Row → Option (Basic × Basic)
as_concept_in (role_in r s) = None
as_concept_in (concept_in b c) = Some (b, c)
as_concept_in (never n) = None

abbrev pub as_negative : Row → Option Negative
as_negative (role_in r s) = None
as_negative (concept_in b c) = None
as_negative (never n) = Some n

abbrev pub role_inclusions : List Axiom → List (Role × Role)
role_inclusions axioms = filter_map as_role_in (rows_of axioms)

abbrev pub concept_inclusions : List Axiom → List (Basic × Basic)
concept_inclusions axioms = filter_map as_concept_in (rows_of axioms)

-- the negatives of an axiom, each beside it
abbrev pub axiom_negatives : Axiom → List (Option Axiom × Negative)
axiom_negatives a = map (λ n. (Some a, n)) (filter_map as_negative (axiom_rows a))

-- that owl:Nothing is disjoint from itself; where it is no name of the run, nothing can meet that
abbrev pub nothing_negative : Option ℕ → List (Option Axiom × Negative)
nothing_negative None = []
nothing_negative (Some n) = (None, Basics (basic.Class n) (basic.Class n)) ∷ []

-- the negatives of the axioms, each beside its axiom, and at last that of owl:Nothing
abbrev pub negatives : List Axiom → Option ℕ → List (Option Axiom × Negative)
negatives axioms nothing = flat_map axiom_negatives axioms ++ nothing_negative nothing
