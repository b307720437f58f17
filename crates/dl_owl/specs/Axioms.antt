-- Axioms and declarations of OWL 2 QL (OWL 2 Profiles, 3.2.5), in the functional-style syntax, with what each adds.
use Rattle.std.specs.Prelude.{◌≡◌, ℕ, suc, ◌≤◌, Bool, true, false, List, [], ◌∷◌, length}
use Rattle.dl_lex.specs.declared.keyword.Keyword.{Keyword}
use Rattle.dl_lex.specs.declared.keyword.Keyword.TheVariants.{SubClassOf, EquivalentClasses, DisjointClasses, SubObjectPropertyOf, EquivalentObjectProperties, DisjointObjectProperties, InverseObjectProperties, ObjectPropertyDomain, ObjectPropertyRange, SymmetricObjectProperty, AsymmetricObjectProperty, IrreflexiveObjectProperty, ClassAssertion, ObjectPropertyAssertion, DifferentIndividuals, Declaration, Class, ObjectProperty, NamedIndividual, AnnotationProperty, Datatype, DataProperty, AnnotationAssertion, SubAnnotationPropertyOf, AnnotationPropertyDomain, AnnotationPropertyRange}
use Rattle.dl_names.specs.NameList.{Text, has_name}
use Rattle.dl_terms.specs.declared.role.Role.{Role}
use Rattle.dl_terms.specs.declared.role.Basic.{Basic}
use Rattle.dl_terms.specs.declared.axiom.Part.{Part}
use Rattle.dl_terms.specs.declared.axiom.Axiom.TheVariants as axioms
use Rattle.dl_terms.specs.declared.axiom.Fact.TheVariants as facts
use Rattle.dl_owl.specs.Symbols.{Symbol, opening, closing, node, keyword}
use Rattle.dl_owl.specs.Prefixes.{Prefixes}
use Rattle.dl_owl.specs.NamesNext.{owl_thing, owl_top_object_property, IsIri, IsNameOf}
use Rattle.dl_names.specs.Iris.{is_free, may_be_class}
use Rattle.dl_owl.specs.Annotations.{ValueThen, AnnotationsThen}
use Rattle.dl_owl.specs.Expressions.{RoleThen, SubThen, SupThen, RolesThen, SubsThen}
use Rattle.dl_owl.specs.declared.item.Item.{Item}
use Rattle.dl_owl.specs.declared.item.Item.TheVariants.{Axiom as axiom_item, Fact as fact_item, Class as class_item, Role as role_item, NoEffect as no_effect}
use Rattle.dl_owl.specs.Items.{link}
use Rattle.dl_text.specs.AxiomText.{property_of}

-- the entities that may be declared without effect
abbrev pub is_other_entity : Keyword → Bool
is_other_entity NamedIndividual = true
is_other_entity AnnotationProperty = true
is_other_entity Datatype = true
is_other_entity DataProperty = true
is_other_entity _ = false

-- axioms on two annotation properties, or on one and an IRI
abbrev pub is_annotation_axiom : Keyword → Bool
is_annotation_axiom SubAnnotationPropertyOf = true
is_annotation_axiom AnnotationPropertyDomain = true
is_annotation_axiom AnnotationPropertyRange = true
is_annotation_axiom _ = false

module _ (p : Prefixes) where
  -- the entity of a declaration stands next, and then the rest
  pub data EntityThen : List Text → List Symbol → Item → List Symbol → List Text → Type 0 where
    class : {names after : List Text} {s : Symbol} {n : ℕ} {rest : List Symbol}
        → IsNameOf p may_be_class names s n after
        → EntityThen names (keyword Class ∷ opening ∷ s ∷ closing ∷ rest) (class_item n) rest after
    thing : {names : List Text} {s : Symbol} {rest : List Symbol} → IsIri p s owl_thing
        → EntityThen names (keyword Class ∷ opening ∷ s ∷ closing ∷ rest) no_effect rest names
    property : {names after : List Text} {s : Symbol} {n : ℕ} {rest : List Symbol}
        → IsNameOf p is_free names s n after
        → EntityThen names (keyword ObjectProperty ∷ opening ∷ s ∷ closing ∷ rest) (role_item n) rest after
    other : {names : List Text} {k : Keyword} {s : Symbol} {text : Text} {rest : List Symbol}
        → is_other_entity k ≡ true → IsIri p s text
        → EntityThen names (keyword k ∷ opening ∷ s ∷ closing ∷ rest) no_effect rest names

  -- so many individuals stand next, no one of them twice and none among those before, and then the rest
  pub data DifferentThen : List Text → List Symbol → ℕ → List Symbol → Type 0 where
    none : {before : List Text} {rest : List Symbol} → DifferentThen before rest 0 rest
    more : {before : List Text} {s : Symbol} {text : Text} {others rest : List Symbol} {count : ℕ}
        → IsIri p s text → is_free text ≡ true → has_name before text ≡ false
        → DifferentThen (text ∷ before) others count rest
        → DifferentThen before (s ∷ others) (suc count) rest

  -- the operands of an axiom with this keyword stand next, and then the rest
  pub data OperandsThen : Keyword → List Text → List Symbol → Item → List Symbol → List Text → Type 0 where
    sub_class : {names one after : List Text} {first second rest : List Symbol} {b : Basic} {ps : List Part}
        → SubThen p names first b second one → SupThen p one second ps rest after
        → OperandsThen SubClassOf names first (axiom_item (axioms.SubClass b ps)) rest after
    equivalent_classes : {names after : List Text} {first rest : List Symbol} {bs : List Basic}
        → SubsThen p names first bs rest after → 2 ≤ length bs
        → OperandsThen EquivalentClasses names first (axiom_item (axioms.EquivalentClasses bs)) rest after
    disjoint_classes : {names after : List Text} {first rest : List Symbol} {bs : List Basic}
        → SubsThen p names first bs rest after → 2 ≤ length bs
        → OperandsThen DisjointClasses names first (axiom_item (axioms.DisjointClasses bs)) rest after
    sub_role : {names one after : List Text} {first second rest : List Symbol} {r s : Role}
        → RoleThen p names first r second one → RoleThen p one second s rest after
        → OperandsThen SubObjectPropertyOf names first (axiom_item (axioms.SubRole r s)) rest after
    sub_top : {names after : List Text} {first rest : List Symbol} {r : Role} {top : Symbol}
        → RoleThen p names first r (top ∷ rest) after → IsIri p top owl_top_object_property
        → OperandsThen SubObjectPropertyOf names first (role_item (property_of r)) rest after
    equivalent_roles : {names after : List Text} {first rest : List Symbol} {rs : List Role}
        → RolesThen p names first rs rest after → 2 ≤ length rs
        → OperandsThen EquivalentObjectProperties names first (axiom_item (axioms.EquivalentRoles rs)) rest after
    disjoint_roles : {names after : List Text} {first rest : List Symbol} {rs : List Role}
        → RolesThen p names first rs rest after → 2 ≤ length rs
        → OperandsThen DisjointObjectProperties names first (axiom_item (axioms.DisjointRoles rs)) rest after
    inverse_roles : {names one after : List Text} {first second rest : List Symbol} {r s : Role}
        → RoleThen p names first r second one → RoleThen p one second s rest after
        → OperandsThen InverseObjectProperties names first (axiom_item (axioms.InverseRoles r s)) rest after
    domain : {names one after : List Text} {first second rest : List Symbol} {r : Role} {ps : List Part}
        → RoleThen p names first r second one → SupThen p one second ps rest after
        → OperandsThen ObjectPropertyDomain names first (axiom_item (axioms.Domain r ps)) rest after
    range : {names one after : List Text} {first second rest : List Symbol} {r : Role} {ps : List Part}
        → RoleThen p names first r second one → SupThen p one second ps rest after
        → OperandsThen ObjectPropertyRange names first (axiom_item (axioms.Range r ps)) rest after
    symmetric : {names after : List Text} {first rest : List Symbol} {r : Role}
        → RoleThen p names first r rest after
        → OperandsThen SymmetricObjectProperty names first (axiom_item (axioms.Symmetric r)) rest after
    asymmetric : {names after : List Text} {first rest : List Symbol} {r : Role}
        → RoleThen p names first r rest after
        → OperandsThen AsymmetricObjectProperty names first (axiom_item (axioms.Asymmetric r)) rest after
    irreflexive : {names after : List Text} {first rest : List Symbol} {r : Role}
        → RoleThen p names first r rest after
        → OperandsThen IrreflexiveObjectProperty names first (axiom_item (axioms.Irreflexive r)) rest after
    is_in : {names one after : List Text} {s t : Symbol} {c a : ℕ} {rest : List Symbol}
        → IsNameOf p may_be_class names s c one → IsNameOf p is_free one t a after
        → OperandsThen ClassAssertion names (s ∷ t ∷ rest) (fact_item (facts.Is c a)) rest after
    in_thing : {names : List Text} {s t : Symbol} {text : Text} {rest : List Symbol}
        → IsIri p s owl_thing → IsIri p t text → is_free text ≡ true
        → OperandsThen ClassAssertion names (s ∷ t ∷ rest) no_effect rest names
    joined : {names one two after : List Text} {first rest : List Symbol} {r : Role} {s t : Symbol} {a b : ℕ}
        → RoleThen p names first r (s ∷ t ∷ rest) one → IsNameOf p is_free one s a two
        → IsNameOf p is_free two t b after
        → OperandsThen ObjectPropertyAssertion names first (fact_item (link r a b)) rest after
    different : {names : List Text} {first rest : List Symbol} {count : ℕ}
        → DifferentThen [] first count rest → 2 ≤ count
        → OperandsThen DifferentIndividuals names first no_effect rest names
    declaration : {names after : List Text} {first rest : List Symbol} {item : Item}
        → EntityThen names first item rest after → OperandsThen Declaration names first item rest after
    annotation_of_iri : {names : List Text} {s t : Symbol} {one two : Text} {«value» rest : List Symbol}
        → IsIri p s one → IsIri p t two → ValueThen p «value» rest
        → OperandsThen AnnotationAssertion names (s ∷ t ∷ «value») no_effect rest names
    annotation_of_node : {names : List Text} {s : Symbol} {one : Text} {«value» rest : List Symbol}
        → IsIri p s one → ValueThen p «value» rest
        → OperandsThen AnnotationAssertion names (s ∷ node ∷ «value») no_effect rest names
    annotation_axiom : {names : List Text} {k : Keyword} {s t : Symbol} {one two : Text} {rest : List Symbol}
        → is_annotation_axiom k ≡ true → IsIri p s one → IsIri p t two
        → OperandsThen k names (s ∷ t ∷ rest) no_effect rest names

  -- an axiom stands next, with its annotations, and then the rest
  pub data AxiomThen : List Text → List Symbol → Item → List Symbol → List Text → Type 0 where
    axiom_of : {names after : List Text} {k : Keyword} {inner operands rest : List Symbol} {item : Item}
        → AnnotationsThen p inner operands → OperandsThen k names operands item (closing ∷ rest) after
        → AxiomThen names (keyword k ∷ opening ∷ inner) item rest after
