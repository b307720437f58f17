-- The same for axioms.
use Rattle.std.proofs.Common.{◌≡◌, ℕ, ◌≤◌, ◌⊎◌, inl, inr, List, [], ◌∷◌, length, if◌then◌else◌, sym, ap, ◌∙◌, subst}
use Rattle.dl_lex.specs.declared.keyword.Keyword.{Keyword}
use Rattle.dl_lex.specs.declared.keyword.Keyword.TheVariants.{SubClassOf, EquivalentClasses, DisjointClasses, SubObjectPropertyOf, EquivalentObjectProperties, DisjointObjectProperties, InverseObjectProperties, ObjectPropertyDomain, ObjectPropertyRange, SymmetricObjectProperty, AsymmetricObjectProperty, IrreflexiveObjectProperty, ClassAssertion, ObjectPropertyAssertion, DifferentIndividuals, Declaration, AnnotationAssertion}
use Rattle.dl_names.specs.NameList.{Text}
use Rattle.dl_terms.specs.declared.role.Role.{Role}
use Rattle.dl_terms.specs.declared.role.Basic.{Basic}
use Rattle.dl_terms.specs.declared.axiom.Part.{Part}
use Rattle.dl_terms.specs.declared.axiom.Axiom.TheVariants as kind
use Rattle.dl_terms.specs.declared.axiom.Fact.TheVariants as fact
use Rattle.dl_owl.specs.declared.document.Document.{Document}
use Rattle.dl_owl.specs.Symbols.{Symbol, closing, node, keyword}
use Rattle.dl_owl.specs.Prefixes.{Prefixes}
use Rattle.dl_owl.specs.NamesNext.{owl_thing, owl_top_object_property, IsIri, IsNameOf}
use Rattle.dl_names.specs.Iris.{may_be_class}
use Rattle.dl_owl.specs.Annotations.{ValueThen}
use Rattle.dl_owl.specs.Expressions.{RoleThen, SupThen, RolesThen, SubsThen}
use Rattle.dl_owl.specs.declared.item.Item.{Item}
use Rattle.dl_owl.specs.declared.item.Item.TheVariants.{Axiom as axiom_item, Fact as fact_item, Role as role_item, NoEffect as no_effect}
use Rattle.dl_owl.specs.Items.{link}
use Rattle.dl_text.specs.AxiomText.{property_of}
use Rattle.dl_owl.specs.Axioms as axioms
use Rattle.dl_owl.specs.Axioms.{is_annotation_axiom, EntityThen, DifferentThen, OperandsThen, AxiomThen}
use Rattle.dl_owl.specs.Expected.{Expected, close_then, iri_then, subject_then, value_then, role_then, first_role, second_role, sub_then, sup_then, roles_close, subs_close, individual_then, unnamed_then, different_close, class_then, entity_then, Move, refuses}
use Rattle.dl_owl.specs.Refused.{refused_axiom}
use Rattle.dl_owl.specs.Steps.{axiom_next, begins, member_then, role_and_sup}
use Rattle.dl_owl.proofs.IriLemmas.{if-forth}
use Rattle.dl_owl.proofs.Meaning.{Then, Sees, SeesThis, Means, Comes}

module _ (document : Document) (final : List Text) (p : Prefixes) (names : List Text) (k : Item → Expected) where
  abbrev pub M : Expected → List Text → List Symbol → Type 0
  M e names ss = Means document final p e names ss

  -- operands of an axiom with the keyword, and what is meant behind its parenthesis
  abbrev pub OperandsMean : Keyword → List Symbol → Type 0
  OperandsMean w inner =
      Then (λ i rest after. OperandsThen p w names inner i (closing ∷ rest) after) (λ i after rest. M (k i) after rest)

  abbrev pub AxiomMeans : List Symbol → Type 0
  AxiomMeans ss = Then (λ i rest after. AxiomThen p names ss i rest after) (λ i after rest. M (k i) after rest)

  module _ (ss : List Symbol) where
    abbrev C : Move → Type 0
    C m = Comes document final p m names ss

    begun : (w : Keyword) (operands : Expected) → ((inner : List Symbol) → M operands names inner → OperandsMean w inner)
        → C (begins operands) → AxiomMeans (keyword w ∷ ss)
    begun w operands f h =
        let all = f h.so.0 h.so.1.2 in
        record {
          «value» = all.value;
          rest = all.rest;
          after = all.after;
          is =
              subst (λ l. AxiomThen p names (keyword w ∷ l) all.value all.rest all.after) (sym h.is)
              (axioms.AxiomThen.axiom_of h.so.1.0 all.is);
          so = all.so;
        }

    -- one role
    module _ (w : Keyword) (make : Role → Item)
        (rule : (after : List Text) (first rest : List Symbol) (r : Role) → RoleThen p names first r rest after → OperandsThen p w names first (make r) rest after) where
      one_role : C (begins (role_then (λ r. close_then (k (make r))))) → AxiomMeans (keyword w ∷ ss)
      one_role =
          begun w (role_then (λ r. close_then (k (make r)))) λ inner h. record {
            «value» = make h.value;
            rest = h.so.rest;
            after = h.after;
            is = rule h.after inner (closing ∷ h.so.rest) h.value (subst (λ l. RoleThen p names inner h.value l h.after) h.so.is h.is);
            so = h.so.so;
          }

    -- a role and class expressions
    module _ (w : Keyword) (make : Role → List Part → Item)
        (rule : (one after : List Text) (first second rest : List Symbol) (r : Role) (ps : List Part)
        → RoleThen p names first r second one → SupThen p one second ps rest after → OperandsThen p w names first (make r ps) rest after) where
      role_sup : C (begins (role_and_sup (λ r ps. close_then (k (make r ps))))) → AxiomMeans (keyword w ∷ ss)
      role_sup =
          begun w (role_and_sup (λ r ps. close_then (k (make r ps)))) λ inner h. record {
            «value» = make h.value h.so.value;
            rest = h.so.so.rest;
            after = h.so.after;
            is = rule h.after h.so.after inner h.rest (closing ∷ h.so.so.rest) h.value h.so.value h.is (subst (λ l. SupThen p h.after h.rest h.so.value l h.so.after) h.so.so.is h.so.is);
            so = h.so.so.so;
          }

    -- two or more
    module _ (w : Keyword) (make : List Basic → Item)
        (rule : (after : List Text) (first rest : List Symbol) (bs : List Basic) → SubsThen p names first bs rest after → 2 ≤ length bs → OperandsThen p w names first (make bs) rest after) where
      two_subs : C (begins (subs_close 2 [] (λ bs. k (make bs)))) → AxiomMeans (keyword w ∷ ss)
      two_subs =
          begun w (subs_close 2 [] (λ bs. k (make bs))) λ inner h. record {
            «value» = make h.value;
            rest = h.rest;
            after = h.after;
            is = rule h.after inner (closing ∷ h.rest) h.value h.is.0 h.is.1;
            so = h.so;
          }

    module _ (w : Keyword) (make : List Role → Item)
        (rule : (after : List Text) (first rest : List Symbol) (rs : List Role) → RolesThen p names first rs rest after → 2 ≤ length rs → OperandsThen p w names first (make rs) rest after) where
      two_roles : C (begins (roles_close 2 [] (λ rs. k (make rs)))) → AxiomMeans (keyword w ∷ ss)
      two_roles =
          begun w (roles_close 2 [] (λ rs. k (make rs))) λ inner h. record {
            «value» = make h.value;
            rest = h.rest;
            after = h.after;
            is = rule h.after inner (closing ∷ h.rest) h.value h.is.0 h.is.1;
            so = h.so;
          }

    sub_class : C (axiom_next k (keyword SubClassOf)) → AxiomMeans (keyword SubClassOf ∷ ss)
    sub_class =
        begun SubClassOf (sub_then (λ b. sup_then (λ ps. close_then (k (axiom_item (kind.SubClass b ps)))))) λ inner h. record {
          «value» = axiom_item (kind.SubClass h.value h.so.value);
          rest = h.so.so.rest;
          after = h.so.after;
          is = axioms.OperandsThen.sub_class h.is (subst (λ l. SupThen p h.after h.rest h.so.value l h.so.after) h.so.so.is h.so.is);
          so = h.so.so.so;
        }

    sub_role : C (axiom_next k (keyword SubObjectPropertyOf)) → AxiomMeans (keyword SubObjectPropertyOf ∷ ss)
    sub_role =
        begun SubObjectPropertyOf
        (first_role (λ r. second_role (λ s. close_then (k (axiom_item (kind.SubRole r s)))) (close_then (k (role_item (property_of r))))))
        λ inner h. by inner h.value h.rest h.after h.is h.so
      where
        by : (inner : List Symbol) (r : Role) (rest : List Symbol) (after : List Text) → RoleThen p names inner r rest after
            → Then (λ s more later. RoleThen p after rest s more later) (λ s later more. SeesThis closing (λ l. M (k (axiom_item (kind.SubRole r s))) later l) more)
            ⊎ Sees (λ s more. IsIri p s owl_top_object_property × SeesThis closing (λ l. M (k (role_item (property_of r))) after l) more) rest
            → OperandsMean SubObjectPropertyOf inner
        by inner r rest after role (inl second) = record {
          «value» = axiom_item (kind.SubRole r second.value);
          rest = second.so.rest;
          after = second.after;
          is = axioms.OperandsThen.sub_role role (subst (λ l. RoleThen p after rest second.value l second.after) second.so.is second.is);
          so = second.so.so;
        }
        by inner r rest after role (inr top) =
            let close = top.so.1 in
            record {
              «value» = role_item (property_of r);
              rest = close.rest;
              after = after;
              is =
                  axioms.OperandsThen.sub_top
                  (subst (λ l. RoleThen p names inner r l after) (top.is ∙ ap (λ l. top.token ∷ l) close.is) role) top.so.0;
              so = close.so;
            }

    inverse_roles : C (axiom_next k (keyword InverseObjectProperties)) → AxiomMeans (keyword InverseObjectProperties ∷ ss)
    inverse_roles =
        begun InverseObjectProperties (role_then (λ r. role_then (λ s. close_then (k (axiom_item (kind.InverseRoles r s)))))) λ inner h. record {
          «value» = axiom_item (kind.InverseRoles h.value h.so.value);
          rest = h.so.so.rest;
          after = h.so.after;
          is = axioms.OperandsThen.inverse_roles h.is (subst (λ l. RoleThen p h.after h.rest h.so.value l h.so.after) h.so.so.is h.so.is);
          so = h.so.so.so;
        }

    class_assertion : C (axiom_next k (keyword ClassAssertion)) → AxiomMeans (keyword ClassAssertion ∷ ss)
    class_assertion =
        begun ClassAssertion (class_then (member_then k)) λ inner h. by inner h.token h.rest h.is h.so
      where
        by : (inner : List Symbol) (t : Symbol) (rest : List Symbol) → inner ≡ t ∷ rest
            → (IsIri p t owl_thing × M (unnamed_then (close_then (k no_effect))) names rest)
            ⊎ ((c : ℕ) × ((after : List Text) × (IsNameOf p may_be_class names t c after
            × M (individual_then (λ a. close_then (k (fact_item (fact.Is c a))))) after rest)))
            → OperandsMean ClassAssertion inner
        by inner t rest is (inl thing) =
            let who = thing.1 in
            let close = who.so.1.2 in
            record {
              «value» = no_effect;
              rest = close.rest;
              after = names;
              is =
                  subst (λ l. OperandsThen p ClassAssertion names l no_effect (closing ∷ close.rest) names)
                  (sym (is ∙ ap (λ l. t ∷ l) (who.is ∙ ap (λ l. who.token ∷ l) close.is)))
                  (axioms.OperandsThen.in_thing thing.0 who.so.1.0 who.so.1.1);
              so = close.so;
            }
        by inner t rest is (inr class) =
            let who = class.1.1.1 in
            let close = who.so.1.1.1 in
            record {
              «value» = fact_item (fact.Is class.0 who.so.0);
              rest = close.rest;
              after = who.so.1.0;
              is =
                  subst (λ l. OperandsThen p ClassAssertion names l (fact_item (fact.Is class.0 who.so.0)) (closing ∷ close.rest) who.so.1.0)
                  (sym (is ∙ ap (λ l. t ∷ l) (who.is ∙ ap (λ l. who.token ∷ l) close.is)))
                  (axioms.OperandsThen.is_in class.1.1.0 who.so.1.1.0);
              so = close.so;
            }

    property_assertion : C (axiom_next k (keyword ObjectPropertyAssertion)) → AxiomMeans (keyword ObjectPropertyAssertion ∷ ss)
    property_assertion =
        begun ObjectPropertyAssertion
        (role_then (λ r. individual_then (λ a. individual_then (λ b. close_then (k (fact_item (link r a b)))))))
        λ inner h.
        let one = h.so in
        let two = one.so.1.1.1 in
        let close = two.so.1.1.1 in
        record {
          «value» = fact_item (link h.value one.so.0 two.so.0);
          rest = close.rest;
          after = two.so.1.0;
          is =
              axioms.OperandsThen.joined
              (subst (λ l. RoleThen p names inner h.value l h.after)
              (one.is ∙ ap (λ l. one.token ∷ l) (two.is ∙ ap (λ l. two.token ∷ l) close.is)) h.is)
              one.so.1.1.0 two.so.1.1.0;
          so = close.so;
        }

    different : C (axiom_next k (keyword DifferentIndividuals)) → AxiomMeans (keyword DifferentIndividuals ∷ ss)
    different =
        begun DifferentIndividuals (different_close 2 [] (k no_effect)) λ inner h. record {
          «value» = no_effect;
          rest = h.1.0;
          after = names;
          is = axioms.OperandsThen.different h.1.1.0 h.1.1.1;
          so = h.1.1.2;
        }

    declaration : C (axiom_next k (keyword Declaration)) → AxiomMeans (keyword Declaration ∷ ss)
    declaration =
        begun Declaration (entity_then (λ i. close_then (k i))) λ inner h. record {
          «value» = h.value;
          rest = h.so.rest;
          after = h.after;
          is = axioms.OperandsThen.declaration (subst (λ l. EntityThen p names inner h.value l h.after) h.so.is h.is);
          so = h.so.so;
        }

    annotation_assertion : C (axiom_next k (keyword AnnotationAssertion)) → AxiomMeans (keyword AnnotationAssertion ∷ ss)
    annotation_assertion =
        begun AnnotationAssertion (iri_then (subject_then (value_then (k no_effect)))) λ inner h.
        let subject = h.so.1.1 in
        let «value» = subject.so.1 in
        record {
          «value» = no_effect;
          rest = «value».0;
          after = names;
          is =
              subst (λ l. OperandsThen p AnnotationAssertion names l no_effect (closing ∷ «value».0) names)
              (sym (h.is ∙ ap (λ l. h.token ∷ l) subject.is))
              (by h.token h.so.0 h.so.1.0 subject.token subject.rest «value».0 subject.so.0 «value».1.0);
          so = «value».1.1;
        }
      where
        by : (s : Symbol) (one : Text) → IsIri p s one → (t : Symbol) (rest more : List Symbol)
            → (t ≡ node) ⊎ ((text : Text) × IsIri p t text) → ValueThen p rest (closing ∷ more)
            → OperandsThen p AnnotationAssertion names (s ∷ t ∷ rest) no_effect (closing ∷ more) names
        by s one is t rest more (inl blank) v =
            subst (λ u. OperandsThen p AnnotationAssertion names (s ∷ u ∷ rest) no_effect (closing ∷ more) names) (sym blank)
            (axioms.OperandsThen.annotation_of_node is v)
        by s one is t rest more (inr iri) v = axioms.OperandsThen.annotation_of_iri is iri.1 v

    other : (w : Keyword) → C (if is_annotation_axiom w then begins (iri_then (iri_then (close_then (k no_effect)))) else refuses (refused_axiom w))
        → AxiomMeans (keyword w ∷ ss)
    other w h =
        let does = if-forth C (λ cause absent. absent) (is_annotation_axiom w) (begins (iri_then (iri_then (close_then (k no_effect))))) (refused_axiom w) h in
        begun w (iri_then (iri_then (close_then (k no_effect))))
        (λ inner h.
        let two = h.so.1.1 in
        let close = two.so.1.1 in
        record {
          «value» = no_effect;
          rest = close.rest;
          after = names;
          is =
              subst (λ l. OperandsThen p w names l no_effect (closing ∷ close.rest) names)
              (sym (h.is ∙ ap (λ l. h.token ∷ l) (two.is ∙ ap (λ l. two.token ∷ l) close.is)))
              (axioms.OperandsThen.annotation_axiom does.0 h.so.1.0 two.so.1.0);
          so = close.so;
        })
        does.1

    pub axiom-forth : (s : Symbol) → C (axiom_next k s) → AxiomMeans (s ∷ ss)
    axiom-forth (keyword SubClassOf) h = sub_class h
    axiom-forth (keyword EquivalentClasses) h =
        two_subs EquivalentClasses (λ bs. axiom_item (kind.EquivalentClasses bs)) (λ after first rest l all two. axioms.OperandsThen.equivalent_classes all two) h
    axiom-forth (keyword DisjointClasses) h =
        two_subs DisjointClasses (λ bs. axiom_item (kind.DisjointClasses bs)) (λ after first rest l all two. axioms.OperandsThen.disjoint_classes all two) h
    axiom-forth (keyword SubObjectPropertyOf) h = sub_role h
    axiom-forth (keyword EquivalentObjectProperties) h =
        two_roles EquivalentObjectProperties (λ rs. axiom_item (kind.EquivalentRoles rs)) (λ after first rest l all two. axioms.OperandsThen.equivalent_roles all two) h
    axiom-forth (keyword DisjointObjectProperties) h =
        two_roles DisjointObjectProperties (λ rs. axiom_item (kind.DisjointRoles rs)) (λ after first rest l all two. axioms.OperandsThen.disjoint_roles all two) h
    axiom-forth (keyword InverseObjectProperties) h = inverse_roles h
    axiom-forth (keyword ObjectPropertyDomain) h =
        role_sup ObjectPropertyDomain (λ r ps. axiom_item (kind.Domain r ps)) (λ one after first second rest r ps role sup. axioms.OperandsThen.domain role sup) h
    axiom-forth (keyword ObjectPropertyRange) h =
        role_sup ObjectPropertyRange (λ r ps. axiom_item (kind.Range r ps)) (λ one after first second rest r ps role sup. axioms.OperandsThen.range role sup) h
    axiom-forth (keyword SymmetricObjectProperty) h =
        one_role SymmetricObjectProperty (λ r. axiom_item (kind.Symmetric r)) (λ after first rest r role. axioms.OperandsThen.symmetric role) h
    axiom-forth (keyword AsymmetricObjectProperty) h =
        one_role AsymmetricObjectProperty (λ r. axiom_item (kind.Asymmetric r)) (λ after first rest r role. axioms.OperandsThen.asymmetric role) h
    axiom-forth (keyword IrreflexiveObjectProperty) h =
        one_role IrreflexiveObjectProperty (λ r. axiom_item (kind.Irreflexive r)) (λ after first rest r role. axioms.OperandsThen.irreflexive role) h
    axiom-forth (keyword ClassAssertion) h = class_assertion h
    axiom-forth (keyword ObjectPropertyAssertion) h = property_assertion h
    axiom-forth (keyword DifferentIndividuals) h = different h
    axiom-forth (keyword Declaration) h = declaration h
    axiom-forth (keyword AnnotationAssertion) h = annotation_assertion h
    axiom-forth (keyword w) h = other w h
    axiom-forth s h = absurd h
