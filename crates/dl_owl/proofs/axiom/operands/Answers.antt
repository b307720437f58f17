use Rattle.std.proofs.Common.{refl, sym, subst}
use Rattle.dl_lex.specs.declared.keyword.Keyword.TheVariants.{ObjectPropertyDomain, ObjectPropertyRange, SymmetricObjectProperty, AsymmetricObjectProperty, IrreflexiveObjectProperty}
use Rattle.dl_owl.specs.Operands.{operands_then}
use Rattle.dl_owl.specs.Walk.{here, Reads}
use Rattle.dl_owl.proofs.AxiomLemmas.{reads_as, reads_word, annotations_behind, role_behind, role_and_parts_behind, operands_other}
use Rattle.dl_owl.proofs.axiom.operands.Goals as goal

pub returns-in-SubClassOf : goal.returns-in-SubClassOf
returns-in-SubClassOf c =
    subst
    (λ w.
    Reads (operands_then w) (here c.args.at.now c.args.prefixes.now c.args.names.now)
    (here c.sub_class_of.new.at c.args.prefixes.now c.sub_class_of.new.names) c.sub_class_of.result)
    (sym c.in-SubClassOf.is) c.sub_class_of.ensures

pub returns-in-EquivalentClasses : goal.returns-in-EquivalentClasses
returns-in-EquivalentClasses c =
    subst
    (λ w.
    Reads (operands_then w) (here c.args.at.now c.args.prefixes.now c.args.names.now)
    (here c.equivalent_classes.new.at c.args.prefixes.now c.equivalent_classes.new.names) c.equivalent_classes.result)
    (sym c.in-EquivalentClasses.is) c.equivalent_classes.ensures

pub returns-in-DisjointClasses : goal.returns-in-DisjointClasses
returns-in-DisjointClasses c =
    subst
    (λ w.
    Reads (operands_then w) (here c.args.at.now c.args.prefixes.now c.args.names.now)
    (here c.disjoint_classes.new.at c.args.prefixes.now c.disjoint_classes.new.names) c.disjoint_classes.result)
    (sym c.in-DisjointClasses.is) c.disjoint_classes.ensures

pub returns-in-SubObjectPropertyOf : goal.returns-in-SubObjectPropertyOf
returns-in-SubObjectPropertyOf c =
    subst
    (λ w.
    Reads (operands_then w) (here c.args.at.now c.args.prefixes.now c.args.names.now)
    (here c.sub_role_of.new.at c.args.prefixes.now c.sub_role_of.new.names) c.sub_role_of.result)
    (sym c.in-SubObjectPropertyOf.is) c.sub_role_of.ensures

pub returns-in-EquivalentObjectProperties : goal.returns-in-EquivalentObjectProperties
returns-in-EquivalentObjectProperties c =
    subst
    (λ w.
    Reads (operands_then w) (here c.args.at.now c.args.prefixes.now c.args.names.now)
    (here c.equivalent_roles.new.at c.args.prefixes.now c.equivalent_roles.new.names) c.equivalent_roles.result)
    (sym c.in-EquivalentObjectProperties.is) c.equivalent_roles.ensures

pub returns-in-DisjointObjectProperties : goal.returns-in-DisjointObjectProperties
returns-in-DisjointObjectProperties c =
    subst
    (λ w.
    Reads (operands_then w) (here c.args.at.now c.args.prefixes.now c.args.names.now)
    (here c.disjoint_roles.new.at c.args.prefixes.now c.disjoint_roles.new.names) c.disjoint_roles.result)
    (sym c.in-DisjointObjectProperties.is) c.disjoint_roles.ensures

pub returns-in-InverseObjectProperties : goal.returns-in-InverseObjectProperties
returns-in-InverseObjectProperties c =
    subst
    (λ w.
    Reads (operands_then w) (here c.args.at.now c.args.prefixes.now c.args.names.now)
    (here c.inverse_roles.new.at c.args.prefixes.now c.inverse_roles.new.names) c.inverse_roles.result)
    (sym c.in-InverseObjectProperties.is) c.inverse_roles.ensures

pub returns-in-ObjectPropertyDomain : goal.returns-in-ObjectPropertyDomain
returns-in-ObjectPropertyDomain c =
    reads_word role_and_parts_behind c.args.word ObjectPropertyDomain (here c.args.at.now c.args.prefixes.now c.args.names.now)
    (here c.domain_or_range.new.at c.args.prefixes.now c.domain_or_range.new.names)
    c.domain_or_range.result c.in-ObjectPropertyDomain.is (λ k. refl) c.domain_or_range.ensures

pub returns-in-ObjectPropertyRange : goal.returns-in-ObjectPropertyRange
returns-in-ObjectPropertyRange c =
    reads_word role_and_parts_behind c.args.word ObjectPropertyRange (here c.args.at.now c.args.prefixes.now c.args.names.now)
    (here c.domain_or_range-in-ObjectPropertyRange.new.at c.args.prefixes.now c.domain_or_range-in-ObjectPropertyRange.new.names)
    c.domain_or_range-in-ObjectPropertyRange.result c.in-ObjectPropertyRange.is (λ k. refl) c.domain_or_range-in-ObjectPropertyRange.ensures

pub returns-in-SymmetricObjectProperty : goal.returns-in-SymmetricObjectProperty
returns-in-SymmetricObjectProperty c =
    reads_word role_behind c.args.word SymmetricObjectProperty (here c.args.at.now c.args.prefixes.now c.args.names.now)
    (here c.one_role.new.at c.args.prefixes.now c.one_role.new.names)
    c.one_role.result c.in-SymmetricObjectProperty.is (λ k. refl) c.one_role.ensures

pub returns-in-AsymmetricObjectProperty : goal.returns-in-AsymmetricObjectProperty
returns-in-AsymmetricObjectProperty c =
    reads_word role_behind c.args.word AsymmetricObjectProperty (here c.args.at.now c.args.prefixes.now c.args.names.now)
    (here c.one_role-in-AsymmetricObjectProperty.new.at c.args.prefixes.now c.one_role-in-AsymmetricObjectProperty.new.names)
    c.one_role-in-AsymmetricObjectProperty.result c.in-AsymmetricObjectProperty.is (λ k. refl) c.one_role-in-AsymmetricObjectProperty.ensures

pub returns-in-IrreflexiveObjectProperty : goal.returns-in-IrreflexiveObjectProperty
returns-in-IrreflexiveObjectProperty c =
    reads_word role_behind c.args.word IrreflexiveObjectProperty (here c.args.at.now c.args.prefixes.now c.args.names.now)
    (here c.one_role-in-IrreflexiveObjectProperty.new.at c.args.prefixes.now c.one_role-in-IrreflexiveObjectProperty.new.names)
    c.one_role-in-IrreflexiveObjectProperty.result c.in-IrreflexiveObjectProperty.is (λ k. refl) c.one_role-in-IrreflexiveObjectProperty.ensures

pub returns-in-ClassAssertion : goal.returns-in-ClassAssertion
returns-in-ClassAssertion c =
    subst
    (λ w.
    Reads (operands_then w) (here c.args.at.now c.args.prefixes.now c.args.names.now)
    (here c.class_assertion.new.at c.args.prefixes.now c.class_assertion.new.names) c.class_assertion.result)
    (sym c.in-ClassAssertion.is) c.class_assertion.ensures

pub returns-in-ObjectPropertyAssertion : goal.returns-in-ObjectPropertyAssertion
returns-in-ObjectPropertyAssertion c =
    subst
    (λ w.
    Reads (operands_then w) (here c.args.at.now c.args.prefixes.now c.args.names.now)
    (here c.property_assertion.new.at c.args.prefixes.now c.property_assertion.new.names) c.property_assertion.result)
    (sym c.in-ObjectPropertyAssertion.is) c.property_assertion.ensures

pub returns-in-DifferentIndividuals : goal.returns-in-DifferentIndividuals
returns-in-DifferentIndividuals c =
    subst
    (λ w.
    Reads (operands_then w) (here c.args.at.now c.args.prefixes.now c.args.names.now)
    (here c.different_individuals.new.at c.args.prefixes.now c.args.names.now) c.different_individuals.result)
    (sym c.in-DifferentIndividuals.is) (c.different_individuals.ensures c.args.names.now)

pub returns-in-Declaration : goal.returns-in-Declaration
returns-in-Declaration c =
    subst
    (λ w.
    Reads (operands_then w) (here c.args.at.now c.args.prefixes.now c.args.names.now)
    (here c.declaration.new.at c.args.prefixes.now c.declaration.new.names) c.declaration.result)
    (sym c.in-Declaration.is) c.declaration.ensures

pub returns-in-AnnotationAssertion : goal.returns-in-AnnotationAssertion
returns-in-AnnotationAssertion c =
    subst
    (λ w.
    Reads (operands_then w) (here c.args.at.now c.args.prefixes.now c.args.names.now)
    (here c.annotation_assertion.new.at c.args.prefixes.now c.args.names.now) c.annotation_assertion.result)
    (sym c.in-AnnotationAssertion.is) (c.annotation_assertion.ensures c.args.names.now)

pub returns-in_default : goal.returns-in_default
returns-in_default c =
    reads_as (operands_then c.args.word) annotations_behind (here c.args.at.now c.args.prefixes.now c.args.names.now)
    (here c.annotation_axiom.new.at c.args.prefixes.now c.args.names.now) c.annotation_axiom.result
    (λ k.
    operands_other c.args.word k c.in_default.not-SubClassOf
    c.in_default.not-EquivalentClasses
    c.in_default.not-DisjointClasses
    c.in_default.not-SubObjectPropertyOf
    c.in_default.not-EquivalentObjectProperties
    c.in_default.not-DisjointObjectProperties
    c.in_default.not-InverseObjectProperties
    c.in_default.not-ObjectPropertyDomain
    c.in_default.not-ObjectPropertyRange
    c.in_default.not-SymmetricObjectProperty
    c.in_default.not-AsymmetricObjectProperty
    c.in_default.not-IrreflexiveObjectProperty
    c.in_default.not-ClassAssertion
    c.in_default.not-ObjectPropertyAssertion
    c.in_default.not-DifferentIndividuals
    c.in_default.not-Declaration
    c.in_default.not-AnnotationAssertion)
    (c.annotation_axiom.ensures c.args.names.now)
