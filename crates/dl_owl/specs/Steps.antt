-- What the next token does, by what is expected, and why reading can't go on where it can't.
use Rattle.std.specs.Prelude.{ℕ, suc, zero, Bool, Option, Some, None, List, [], ◌∷◌, ◌++◌, if◌then◌else◌}
use Rattle.std.specs.Str.{bytes_eq}
use Rattle.dl_lex.specs.declared.keyword.Keyword.{Keyword}
use Rattle.dl_lex.specs.declared.keyword.Keyword.TheVariants.{Prefix, Ontology, Import, Annotation, SubClassOf, EquivalentClasses, DisjointClasses, SubObjectPropertyOf, EquivalentObjectProperties, DisjointObjectProperties, InverseObjectProperties, ObjectPropertyDomain, ObjectPropertyRange, SymmetricObjectProperty, AsymmetricObjectProperty, IrreflexiveObjectProperty, ClassAssertion, ObjectPropertyAssertion, DifferentIndividuals, Declaration, Class, ObjectProperty, AnnotationAssertion, ObjectInverseOf, ObjectSomeValuesFrom, ObjectIntersectionOf, ObjectComplementOf, ObjectPropertyChain}
use Rattle.dl_names.specs.NameList.{Text, has_name}
use Rattle.dl_terms.specs.Roles.{named, inverse_of}
use Rattle.dl_terms.specs.declared.role.Role.{Role}
use Rattle.dl_terms.specs.declared.role.Basic.{Basic}
use Rattle.dl_terms.specs.declared.role.Basic.TheVariants as basic
use Rattle.dl_terms.specs.declared.axiom.Part.{Part}
use Rattle.dl_terms.specs.declared.axiom.Part.TheVariants as part
use Rattle.dl_terms.specs.declared.axiom.Axiom.TheVariants as axioms
use Rattle.dl_terms.specs.declared.axiom.Fact.TheVariants as facts
use Rattle.dl_owl.specs.declared.document.Document.{Document}
use Rattle.dl_owl.specs.Causes.{Cause, syntax, prefix_unknown, not_ql, left_out, reserved}
use Rattle.dl_owl.specs.declared.fault.Construct.TheVariants.{Thing, AnonymousIndividual}
use Rattle.dl_owl.specs.Symbols.{Symbol, opening, closing, equals, caret, full_iri, short_iri, string, language, node, keyword, ending}
use Rattle.dl_owl.specs.Prefixes.{Prefixes, prefix_of, local_of, declared_iri, expanded}
use Rattle.dl_owl.specs.NamesNext.{owl_thing, owl_top_object_property}
use Rattle.dl_names.specs.Iris.{is_free, may_be_class}
use Rattle.dl_owl.specs.declared.item.Item.{Item}
use Rattle.dl_owl.specs.declared.item.Item.TheVariants.{Axiom as axiom_item, Fact as fact_item, Class as class_item, Role as role_item, NoEffect as no_effect}
use Rattle.dl_owl.specs.Items.{empty_document, with_item, link}
use Rattle.dl_text.specs.AxiomText.{property_of}
use Rattle.dl_owl.specs.Axioms.{is_other_entity, is_annotation_axiom}
use Rattle.dl_owl.specs.Refused.{keyword_left_out, refused_axiom, refused_sup, refused_sub, begins_class}
use Rattle.dl_owl.specs.Expected.{Expected, prologue, prefix_name, prefix_equals, prefix_iri, title, annotations_first, items, lone_axiom, finish, done, open_then, close_then, annotations_then, iri_then, subject_then, value_then, value_end, property_then, role_then, first_role, second_role, sub_then, sup_then, thing_then, filler_then, roles_close, subs_close, sups_close, individual_then, unnamed_then, different_close, class_then, declared_class, entity_then, Move, goes, takes_name, declares, refuses}

-- where the token is an IRI, what its text does, and else something other
abbrev pub at_iri : Prefixes → Symbol → (Text → Move) → Move → Move
at_iri p (full_iri text) k other = k text
at_iri p (short_iri short) k other =
    elim (expanded p short) [ None ↦ refuses prefix_unknown | Some text ↦ k text ]
at_iri p _ k other = other

-- a name, where the IRI may be one
abbrev pub name_next : (Text → Bool) → Text → (ℕ → Expected) → Move
name_next allowed text k = if allowed text then takes_name text k else refuses reserved

module _ (p : Prefixes) where
  -- a name, where the token is an IRI
  abbrev pub named_next : (Text → Bool) → (ℕ → Expected) → Move → Symbol → Move
  named_next allowed k other s = at_iri p s (λ text. name_next allowed text k) other

  -- a class or owl:Thing, where the token is an IRI
  abbrev pub class_or_thing : Move → (ℕ → Expected) → Move → Symbol → Move
  class_or_thing thing k other s =
      at_iri p s (λ text. if bytes_eq owl_thing text then thing else name_next may_be_class text k) other

-- ) and then, or something other
abbrev pub close_or : Expected → Symbol → Move → Move
close_or e closing other = goes e
close_or e _ other = other

-- where a filler or the class of an assertion is expected: a construct of this keyword, that is not in OWL 2 QL
abbrev pub refused_class : Keyword → Symbol → Cause
refused_class word (keyword k) = if begins_class k then not_ql word else syntax
refused_class word _ = syntax

abbrev pub refused_individual : Symbol → Cause
refused_individual node = left_out AnonymousIndividual
refused_individual _ = syntax

-- annotations and operands in parentheses
abbrev pub begins : Expected → Move
begins operands = goes (open_then (annotations_then operands))

-- an annotation behind its keyword, and then
abbrev pub annotation_then : Expected → Move
annotation_then e = begins (iri_then (value_then e))

-- the individual of a class assertion; where the class is owl:Thing it has no effect
abbrev pub member_then : (Item → Expected) → Option ℕ → Expected
member_then k (Some c) = individual_then (λ a. close_then (k (fact_item (facts.Is c a))))
member_then k None = unnamed_then (close_then (k no_effect))

abbrev pub class_declared : Option ℕ → Item
class_declared (Some c) = class_item c
class_declared None = no_effect

-- the two operands of an axiom on a role and its classes
abbrev pub role_and_sup : (Role → List Part → Expected) → Expected
role_and_sup k = role_then (λ r. sup_then (λ ps. k r ps))

-- where an axiom is expected
abbrev pub axiom_next : (Item → Expected) → Symbol → Move
axiom_next k (keyword SubClassOf) =
    begins (sub_then (λ b. sup_then (λ ps. close_then (k (axiom_item (axioms.SubClass b ps))))))
axiom_next k (keyword EquivalentClasses) = begins (subs_close 2 [] (λ bs. k (axiom_item (axioms.EquivalentClasses bs))))
axiom_next k (keyword DisjointClasses) = begins (subs_close 2 [] (λ bs. k (axiom_item (axioms.DisjointClasses bs))))
axiom_next k (keyword SubObjectPropertyOf) =
    begins (first_role (λ r. second_role (λ s. close_then (k (axiom_item (axioms.SubRole r s))))
    (close_then (k (role_item (property_of r))))))
axiom_next k (keyword EquivalentObjectProperties) =
    begins (roles_close 2 [] (λ rs. k (axiom_item (axioms.EquivalentRoles rs))))
axiom_next k (keyword DisjointObjectProperties) =
    begins (roles_close 2 [] (λ rs. k (axiom_item (axioms.DisjointRoles rs))))
axiom_next k (keyword InverseObjectProperties) =
    begins (role_then (λ r. role_then (λ s. close_then (k (axiom_item (axioms.InverseRoles r s))))))
axiom_next k (keyword ObjectPropertyDomain) =
    begins (role_and_sup (λ r ps. close_then (k (axiom_item (axioms.Domain r ps)))))
axiom_next k (keyword ObjectPropertyRange) =
    begins (role_and_sup (λ r ps. close_then (k (axiom_item (axioms.Range r ps)))))
axiom_next k (keyword SymmetricObjectProperty) =
    begins (role_then (λ r. close_then (k (axiom_item (axioms.Symmetric r)))))
axiom_next k (keyword AsymmetricObjectProperty) =
    begins (role_then (λ r. close_then (k (axiom_item (axioms.Asymmetric r)))))
axiom_next k (keyword IrreflexiveObjectProperty) =
    begins (role_then (λ r. close_then (k (axiom_item (axioms.Irreflexive r)))))
axiom_next k (keyword ClassAssertion) = begins (class_then (member_then k))
axiom_next k (keyword ObjectPropertyAssertion) =
    begins (role_then (λ r. individual_then (λ a. individual_then (λ b. close_then (k (fact_item (link r a b)))))))
axiom_next k (keyword DifferentIndividuals) = begins (different_close 2 [] (k no_effect))
axiom_next k (keyword Declaration) = begins (entity_then (λ i. close_then (k i)))
axiom_next k (keyword AnnotationAssertion) = begins (iri_then (subject_then (value_then (k no_effect))))
axiom_next k (keyword w) =
    if is_annotation_axiom w then begins (iri_then (iri_then (close_then (k no_effect)))) else refuses (refused_axiom w)
axiom_next k _ = refuses syntax

-- where an axiom or the end of the ontology is expected
abbrev pub items_next : Document → Symbol → Move
items_next d closing = goes (finish d)
items_next d (keyword Import) = refuses (keyword_left_out Import)
items_next d s = axiom_next (λ i. items (with_item d i)) s

abbrev pub annotations_first_next : Symbol → Move
annotations_first_next (keyword Annotation) = annotation_then annotations_first
annotations_first_next s = items_next empty_document s

abbrev pub prologue_next : Symbol → Move
prologue_next (keyword Prefix) = goes (open_then prefix_name)
prologue_next (keyword Ontology) = goes (open_then (title 2))
prologue_next _ = refuses syntax

-- a short IRI that ends with its first colon is a prefix name
abbrev pub prefix_name_next : Symbol → Move
prefix_name_next (short_iri short) =
    elim (local_of short) [ [] ↦ goes (prefix_equals (prefix_of short)) | c ∷ cs ↦ refuses syntax ]
prefix_name_next _ = refuses syntax

abbrev pub prefix_equals_next : Text → Symbol → Move
prefix_equals_next name equals = goes (prefix_iri name)
prefix_equals_next name _ = refuses syntax

abbrev pub value_end_next : Expected → Symbol → Move
value_end_next e language = goes (close_then e)
value_end_next e caret = goes (iri_then (close_then e))
value_end_next e closing = goes e
value_end_next e _ = refuses syntax

abbrev pub entity_next : (Item → Expected) → Symbol → Move
entity_next k (keyword Class) = goes (open_then (declared_class (λ c. close_then (k (class_declared c)))))
entity_next k (keyword ObjectProperty) = goes (open_then (property_then (λ n. close_then (k (role_item n)))))
entity_next k (keyword w) =
    if is_other_entity w then goes (open_then (iri_then (close_then (k no_effect)))) else refuses syntax
entity_next k _ = refuses syntax

module _ (p : Prefixes) where
  -- a prefix name that is declared may be declared again with the same IRI
  abbrev pub prefix_iri_next : Text → Symbol → Move
  prefix_iri_next name (full_iri iri) =
      elim (declared_iri p name) [
        | None ↦ declares name iri (close_then prologue)
        | Some old ↦ if bytes_eq old iri then goes (close_then prologue) else refuses syntax
      ]
  prefix_iri_next name _ = refuses syntax

  abbrev pub subject_next : Expected → Symbol → Move
  subject_next e node = goes e
  subject_next e s = at_iri p s (λ _. goes e) (refuses syntax)

  abbrev pub value_next : Expected → Symbol → Move
  value_next e node = goes (close_then e)
  value_next e string = goes (value_end e)
  value_next e s = at_iri p s (λ _. goes (close_then e)) (refuses syntax)

  abbrev pub role_next : (Role → Expected) → Symbol → Move
  role_next k (keyword ObjectInverseOf) =
      goes (open_then (property_then (λ n. close_then (k (inverse_of (named n))))))
  role_next k s = named_next p is_free (λ n. k (named n)) (refuses syntax) s

  abbrev pub first_role_next : (Role → Expected) → Symbol → Move
  first_role_next k (keyword ObjectPropertyChain) = refuses (not_ql ObjectPropertyChain)
  first_role_next k s = role_next k s

  abbrev pub second_role_next : (Role → Expected) → Expected → Symbol → Move
  second_role_next k e (keyword ObjectInverseOf) = role_next k (keyword ObjectInverseOf)
  second_role_next k e s =
      at_iri p s (λ text.
      if bytes_eq owl_top_object_property text then goes e else name_next is_free text (λ n. k (named n)))
      (refuses syntax)

  abbrev pub sub_next : (Basic → Expected) → Symbol → Move
  sub_next k (keyword ObjectSomeValuesFrom) =
      goes (open_then (role_then (λ r. thing_then (close_then (k (basic.SomeOf r))))))
  sub_next k (keyword w) = refuses (refused_sub w)
  sub_next k s = class_or_thing p (refuses (left_out Thing)) (λ c. k (basic.Class c)) (refuses syntax) s

  abbrev pub sup_next : (List Part → Expected) → Symbol → Move
  sup_next k (keyword ObjectIntersectionOf) = goes (open_then (sups_close 2 [] k))
  sup_next k (keyword ObjectComplementOf) = goes (open_then (sub_then (λ b. close_then (k (part.Not b ∷ [])))))
  sup_next k (keyword ObjectSomeValuesFrom) =
      goes (open_then (role_then (λ r. filler_then r (λ part. close_then (k (part ∷ []))))))
  sup_next k (keyword w) = refuses (refused_sup w)
  sup_next k s = class_or_thing p (goes (k (part.Thing ∷ []))) (λ c. k (part.Class c ∷ [])) (refuses syntax) s

  -- of a left side the filler is owl:Thing alone
  abbrev pub thing_next : Expected → Symbol → Move
  thing_next e s =
      at_iri p s (λ text. if bytes_eq owl_thing text then goes e else refuses (not_ql ObjectSomeValuesFrom))
      (refuses (refused_class ObjectSomeValuesFrom s))

  -- of a right side it is owl:Thing or a class
  abbrev pub filler_next : Role → (Part → Expected) → Symbol → Move
  filler_next r k s =
      class_or_thing p (goes (k (part.Any r))) (λ c. k (part.Fill r c))
      (refuses (refused_class ObjectSomeValuesFrom s)) s

  abbrev pub individual_next : (ℕ → Expected) → Symbol → Move
  individual_next k s = named_next p is_free k (refuses (refused_individual s)) s

  abbrev pub unnamed_next : Expected → Symbol → Move
  unnamed_next e s =
      at_iri p s (λ text. if is_free text then goes e else refuses reserved) (refuses (refused_individual s))

  -- an individual that is none of those before
  abbrev pub different_next : List Text → (List Text → Expected) → Symbol → Move
  different_next before k s =
      at_iri p s
      (λ text. if has_name before text then refuses (keyword_left_out DifferentIndividuals)
      else (if is_free text then goes (k (text ∷ before)) else refuses reserved))
      (refuses (refused_individual s))

  -- what the next token does
  abbrev pub move_of : Expected → Symbol → Move
  move_of prologue s = prologue_next s
  move_of prefix_name s = prefix_name_next s
  move_of (prefix_equals name) s = prefix_equals_next name s
  move_of (prefix_iri name) s = prefix_iri_next name s
  move_of (title zero) s = annotations_first_next s
  move_of (title (suc n)) s = at_iri p s (λ _. goes (title n)) (annotations_first_next s)
  move_of annotations_first s = annotations_first_next s
  move_of (items d) s = items_next d s
  move_of lone_axiom s = axiom_next (λ i. finish (with_item empty_document i)) s
  move_of (finish d) ending = goes (done d)
  move_of (finish d) _ = refuses syntax
  move_of (done d) _ = refuses syntax
  move_of (open_then e) opening = goes e
  move_of (open_then e) _ = refuses syntax
  move_of (close_then e) s = close_or e s (refuses syntax)
  move_of (annotations_then e) (keyword Annotation) = annotation_then (annotations_then e)
  move_of (annotations_then e) s = move_of e s
  move_of (iri_then e) s = at_iri p s (λ _. goes e) (refuses syntax)
  move_of (subject_then e) s = subject_next e s
  move_of (value_then e) s = value_next e s
  move_of (value_end e) s = value_end_next e s
  move_of (property_then k) s = named_next p is_free k (refuses syntax) s
  move_of (role_then k) s = role_next k s
  move_of (first_role k) s = first_role_next k s
  move_of (second_role k e) s = second_role_next k e s
  move_of (sub_then k) s = sub_next k s
  move_of (sup_then k) s = sup_next k s
  move_of (thing_then e) s = thing_next e s
  move_of (filler_then r k) s = filler_next r k s
  move_of (roles_close zero before k) s =
      close_or (k before) s (role_next (λ r. roles_close zero (before ++ r ∷ []) k) s)
  move_of (roles_close (suc n) before k) s = role_next (λ r. roles_close n (before ++ r ∷ []) k) s
  move_of (subs_close zero before k) s = close_or (k before) s (sub_next (λ b. subs_close zero (before ++ b ∷ []) k) s)
  move_of (subs_close (suc n) before k) s = sub_next (λ b. subs_close n (before ++ b ∷ []) k) s
  move_of (sups_close zero before k) s = close_or (k before) s (sup_next (λ ps. sups_close zero (before ++ ps) k) s)
  move_of (sups_close (suc n) before k) s = sup_next (λ ps. sups_close n (before ++ ps) k) s
  move_of (individual_then k) s = individual_next k s
  move_of (unnamed_then e) s = unnamed_next e s
  move_of (different_close zero before e) s =
      close_or e s (different_next before (λ more. different_close zero more e) s)
  move_of (different_close (suc n) before e) s = different_next before (λ more. different_close n more e) s
  move_of (class_then k) s =
      class_or_thing p (goes (k None)) (λ c. k (Some c)) (refuses (refused_class ClassAssertion s)) s
  move_of (declared_class k) s = class_or_thing p (goes (k None)) (λ c. k (Some c)) (refuses syntax) s
  move_of (entity_then k) s = entity_next k s
