-- The predicates that a term uses, as they stand: classes, and object properties. As sets they are its signature (OWL 2
-- Structural Specification, 3.1 and 5).
use Rattle.std.specs.Prelude.{ℕ, List, [], ◌∷◌, ◌++◌}
use Rattle.std.specs.List.{flat_map}
use Rattle.dl_terms.specs.declared.role.Base.{Base}
use Rattle.dl_terms.specs.declared.role.Base.TheVariants.{Named, Auxiliary}
use Rattle.dl_terms.specs.declared.role.Role.{Role}
use Rattle.dl_terms.specs.declared.role.Basic.{Basic}
use Rattle.dl_terms.specs.declared.role.Basic.TheVariants as basic
use Rattle.dl_terms.specs.declared.axiom.Part.{Part}
use Rattle.dl_terms.specs.declared.axiom.Part.TheVariants as part
use Rattle.dl_terms.specs.declared.axiom.Axiom.{Axiom}
use Rattle.dl_terms.specs.declared.axiom.Axiom.TheVariants.{SubClass, EquivalentClasses, DisjointClasses, SubRole, EquivalentRoles, DisjointRoles, InverseRoles, Domain, Range, Symmetric, Asymmetric, Irreflexive}
use Rattle.dl_terms.specs.declared.axiom.Fact.{Fact}
use Rattle.dl_terms.specs.declared.axiom.Fact.TheVariants as fact

abbrev pub basic_classes : Basic → List ℕ
basic_classes (basic.Class c) = c ∷ []
basic_classes (basic.SomeOf r) = []

abbrev pub part_classes : Part → List ℕ
part_classes part.Thing = []
part_classes (part.Class c) = c ∷ []
part_classes (part.Any r) = []
part_classes (part.Fill r c) = c ∷ []
part_classes (part.Not b) = basic_classes b

-- the classes that an axiom uses
abbrev pub axiom_classes : Axiom → List ℕ
axiom_classes (SubClass b ps) = basic_classes b ++ flat_map part_classes ps
axiom_classes (EquivalentClasses bs) = flat_map basic_classes bs
axiom_classes (DisjointClasses bs) = flat_map basic_classes bs
axiom_classes (Domain r ps) = flat_map part_classes ps
axiom_classes (Range r ps) = flat_map part_classes ps
axiom_classes a = []

abbrev pub base_properties : Base → List ℕ
base_properties (Named p) = p ∷ []
base_properties (Auxiliary p i c) = p ∷ []

abbrev pub role_properties : Role → List ℕ
role_properties r = base_properties r.base

abbrev pub basic_properties : Basic → List ℕ
basic_properties (basic.Class c) = []
basic_properties (basic.SomeOf r) = role_properties r

abbrev pub part_properties : Part → List ℕ
part_properties part.Thing = []
part_properties (part.Class c) = []
part_properties (part.Any r) = role_properties r
part_properties (part.Fill r c) = role_properties r
part_properties (part.Not b) = basic_properties b

-- the object properties that an axiom uses
abbrev pub axiom_properties : Axiom → List ℕ
axiom_properties (SubClass b ps) = basic_properties b ++ flat_map part_properties ps
axiom_properties (EquivalentClasses bs) = flat_map basic_properties bs
axiom_properties (DisjointClasses bs) = flat_map basic_properties bs
axiom_properties (SubRole r s) = role_properties r ++ role_properties s
axiom_properties (EquivalentRoles rs) = flat_map role_properties rs
axiom_properties (DisjointRoles rs) = flat_map role_properties rs
axiom_properties (InverseRoles r s) = role_properties r ++ role_properties s
axiom_properties (Domain r ps) = role_properties r ++ flat_map part_properties ps
axiom_properties (Range r ps) = role_properties r ++ flat_map part_properties ps
axiom_properties (Symmetric r) = role_properties r
axiom_properties (Asymmetric r) = role_properties r
axiom_properties (Irreflexive r) = role_properties r

abbrev pub fact_classes : Fact → List ℕ
fact_classes (fact.Is c a) = c ∷ []
fact_classes (fact.Link p a b) = []

abbrev pub fact_properties : Fact → List ℕ
fact_properties (fact.Is c a) = []
fact_properties (fact.Link p a b) = p ∷ []
