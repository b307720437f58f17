-- The operands of an axiom: which keywords begin axioms, and what is expected behind each and its annotations.
use Rattle.std.specs.Prelude.{Bool, true, Option, Some, None, List, []}
use Rattle.dl_lex.specs.declared.keyword.Keyword.{Keyword}
use Rattle.dl_lex.specs.declared.keyword.Keyword.TheVariants.{SubClassOf, EquivalentClasses, DisjointClasses, SubObjectPropertyOf, EquivalentObjectProperties, DisjointObjectProperties, InverseObjectProperties, ObjectPropertyDomain, ObjectPropertyRange, SymmetricObjectProperty, AsymmetricObjectProperty, IrreflexiveObjectProperty, ClassAssertion, ObjectPropertyAssertion, DifferentIndividuals, Declaration, AnnotationAssertion}
use Rattle.dl_terms.specs.declared.role.Role.{Role}
use Rattle.dl_terms.specs.declared.axiom.Axiom.{Axiom}
use Rattle.dl_terms.specs.declared.axiom.Axiom.TheVariants as axioms
use Rattle.dl_terms.specs.declared.axiom.Part.{Part}
use Rattle.dl_owl.specs.declared.item.Item.{Item}
use Rattle.dl_owl.specs.declared.item.Item.TheVariants.{Axiom as axiom_item, Fact as fact_item, Role as role_item, NoEffect as no_effect}
use Rattle.dl_owl.specs.Items.{link}
use Rattle.dl_text.specs.AxiomText.{property_of}
use Rattle.dl_owl.specs.Axioms.{is_annotation_axiom}
use Rattle.dl_owl.specs.Expected.{Expected, close_then, iri_then, subject_then, value_then, role_then, first_role, second_role, sub_then, sup_then, roles_close, subs_close, individual_then, different_close, class_then, entity_then}
use Rattle.dl_owl.specs.Steps.{member_then, role_and_sup}

-- the keywords of axioms and declarations
abbrev pub is_axiom : Keyword → Bool
is_axiom SubClassOf = true
is_axiom EquivalentClasses = true
is_axiom DisjointClasses = true
is_axiom SubObjectPropertyOf = true
is_axiom EquivalentObjectProperties = true
is_axiom DisjointObjectProperties = true
is_axiom InverseObjectProperties = true
is_axiom ObjectPropertyDomain = true
is_axiom ObjectPropertyRange = true
is_axiom SymmetricObjectProperty = true
is_axiom AsymmetricObjectProperty = true
is_axiom IrreflexiveObjectProperty = true
is_axiom ClassAssertion = true
is_axiom ObjectPropertyAssertion = true
is_axiom DifferentIndividuals = true
is_axiom Declaration = true
is_axiom AnnotationAssertion = true
is_axiom w = is_annotation_axiom w

-- the inclusion of a role in another, or in owl:topObjectProperty, which holds always
abbrev pub sub_role_item : Role → Option Role → Item
sub_role_item r (Some s) = axiom_item (axioms.SubRole r s)
sub_role_item r None = role_item (property_of r)

-- the domain of a role where the keyword says so, or else its range
abbrev pub domain_or_range : Keyword → Role → List Part → Axiom
domain_or_range ObjectPropertyDomain r ps = axioms.Domain r ps
domain_or_range w r ps = axioms.Range r ps

-- that a role is symmetric or asymmetric where the keyword says so, or else irreflexive
abbrev pub one_role : Keyword → Role → Axiom
one_role SymmetricObjectProperty r = axioms.Symmetric r
one_role AsymmetricObjectProperty r = axioms.Asymmetric r
one_role w r = axioms.Irreflexive r

-- of two annotation properties, or of one and an IRI, where no other keyword stands
abbrev pub operands_then : Keyword → (Item → Expected) → Expected
operands_then SubClassOf k = sub_then (λ b. sup_then (λ ps. close_then (k (axiom_item (axioms.SubClass b ps)))))
operands_then EquivalentClasses k = subs_close 2 [] (λ bs. k (axiom_item (axioms.EquivalentClasses bs)))
operands_then DisjointClasses k = subs_close 2 [] (λ bs. k (axiom_item (axioms.DisjointClasses bs)))
operands_then SubObjectPropertyOf k =
    first_role (λ r.
    second_role (λ s. close_then (k (sub_role_item r (Some s)))) (close_then (k (sub_role_item r None))))
operands_then EquivalentObjectProperties k = roles_close 2 [] (λ rs. k (axiom_item (axioms.EquivalentRoles rs)))
operands_then DisjointObjectProperties k = roles_close 2 [] (λ rs. k (axiom_item (axioms.DisjointRoles rs)))
operands_then InverseObjectProperties k =
    role_then (λ r. role_then (λ s. close_then (k (axiom_item (axioms.InverseRoles r s)))))
operands_then ObjectPropertyDomain k = role_and_sup (λ r ps. close_then (k (axiom_item (axioms.Domain r ps))))
operands_then ObjectPropertyRange k = role_and_sup (λ r ps. close_then (k (axiom_item (axioms.Range r ps))))
operands_then SymmetricObjectProperty k = role_then (λ r. close_then (k (axiom_item (axioms.Symmetric r))))
operands_then AsymmetricObjectProperty k = role_then (λ r. close_then (k (axiom_item (axioms.Asymmetric r))))
operands_then IrreflexiveObjectProperty k = role_then (λ r. close_then (k (axiom_item (axioms.Irreflexive r))))
operands_then ClassAssertion k = class_then (member_then k)
operands_then ObjectPropertyAssertion k =
    role_then (λ r. individual_then (λ a. individual_then (λ b. close_then (k (fact_item (link r a b))))))
operands_then DifferentIndividuals k = different_close 2 [] (k no_effect)
operands_then Declaration k = entity_then (λ i. close_then (k i))
operands_then AnnotationAssertion k = iri_then (subject_then (value_then (k no_effect)))
operands_then w k = iri_then (iri_then (close_then (k no_effect)))
