-- Where a token goes on to what is meant, it is meant with what stands behind it: from reading to the plain grammar.
use Rattle.std.proofs.Common.{◌≡◌, ℕ, suc, ◌≤◌, Bool, true, false, ◌⊎◌, inl, inr, Option, Some, None, List, [], ◌∷◌, ◌++◌, if◌then◌else◌, refl, sym, ap, ◌∙◌, subst, arith}
use Rattle.std.specs.Str.{bytes_eq}
use Rattle.dl_lex.specs.declared.keyword.Keyword.{Keyword}
use Rattle.dl_lex.specs.declared.keyword.Keyword.TheVariants.{Annotation, DifferentIndividuals, Class, ObjectProperty, ObjectInverseOf, ObjectSomeValuesFrom, ObjectIntersectionOf, ObjectComplementOf, ObjectPropertyChain}
use Rattle.dl_names.specs.NameList.{Text, has_name, names_after, place_of}
use Rattle.dl_names.proofs.NameListLemmas.{same-bytes_eq}
use Rattle.dl_terms.specs.Roles.{named, inverse_of}
use Rattle.dl_terms.specs.declared.role.Role.{Role}
use Rattle.dl_terms.specs.declared.role.Basic.{Basic}
use Rattle.dl_terms.specs.declared.role.Basic.TheVariants as basic
use Rattle.dl_terms.specs.declared.axiom.Part.{Part}
use Rattle.dl_terms.specs.declared.axiom.Part.TheVariants as part
use Rattle.dl_owl.specs.declared.document.Document.{Document}
use Rattle.dl_owl.specs.Symbols.{Symbol, opening, closing, caret, string, language, node, keyword}
use Rattle.dl_owl.specs.Prefixes.{Prefixes}
use Rattle.dl_owl.specs.NamesNext.{owl_thing, owl_top_object_property, IsIri, IsNameOf}
use Rattle.dl_names.specs.Iris.{is_free, may_be_class}
use Rattle.dl_owl.specs.Annotations as annotations
use Rattle.dl_owl.specs.Annotations.{ValueThen, AnnotationsThen}
use Rattle.dl_owl.specs.Expressions as expressions
use Rattle.dl_owl.specs.Expressions.{RoleThen, SubThen, SupThen, SupsThen, RolesThen, SubsThen}
use Rattle.dl_owl.specs.declared.item.Item.{Item}
use Rattle.dl_owl.specs.declared.item.Item.TheVariants.{Class as class_item, Role as role_item, NoEffect as no_effect}
use Rattle.dl_owl.specs.Axioms as axioms
use Rattle.dl_owl.specs.Axioms.{is_other_entity, is_annotation_axiom, EntityThen, DifferentThen, OperandsThen, AxiomThen}
use Rattle.dl_owl.specs.declared.fault.Construct.TheVariants.{Thing}
use Rattle.dl_owl.specs.Causes.{Cause, syntax, not_ql, left_out, reserved}
use Rattle.dl_owl.specs.Expected.{Expected, open_then, close_then, annotations_then, iri_then, subject_then, value_then, value_end, property_then, role_then, first_role, second_role, sub_then, sup_then, thing_then, filler_then, individual_then, unnamed_then, different_close, declared_class, entity_then, Move, goes, takes_name, refuses}
use Rattle.dl_owl.specs.Refused.{keyword_left_out}
use Rattle.dl_owl.specs.Steps.{at_iri, named_next, name_next, class_or_thing, refused_class, refused_individual, role_next, first_role_next, second_role_next, sub_next, sup_next, thing_next, filler_next, annotation_then, subject_next, value_next, value_end_next, individual_next, unnamed_next, different_next, entity_next}
use Rattle.dl_owl.proofs.IriLemmas.{IriDoes, NameDoes, at_iri-forth, if-forth, if-other, named-forth, class-forth}
use Rattle.dl_owl.proofs.Meaning.{SeesThis, Means, Comes}

module _ (document : Document) (final : List Text) (p : Prefixes) (names : List Text) (ss : List Symbol) where
  -- what comes of a move
  abbrev pub C : Move → Type 0
  C m = Comes document final p m names ss

  abbrev pub M : Expected → List Text → List Symbol → Type 0
  M e names ss = Means document final p e names ss

  none : (cause : Cause) → C (refuses cause) → ⊥
  none cause h = h

  -- a name, and what is meant behind it
  abbrev pub NameMeans : (Text → Bool) → Symbol → (ℕ → Expected) → Type 0
  NameMeans allowed s k = (n : ℕ) × ((after : List Text) × (IsNameOf p allowed names s n after × M (k n) after ss))

  pub name_means : (allowed : Text → Bool) (s : Symbol) (k : ℕ → Expected) → NameDoes C p allowed s k → NameMeans allowed s k
  name_means allowed s k does = (
    place_of (names_after names does.0) does.0,
    (
      names_after names does.0,
      (record { text = does.0; iri = does.1.0; is_allowed = does.1.1; named = refl; at = refl }, does.1.2),
    ),
  )

  pub iri_means : (s : Symbol) (k : Text → Move) (cause : Cause) → C (at_iri p s k (refuses cause)) → IriDoes C p s k
  iri_means s k cause h = at_iri-forth C none p s k cause h

  pub named_means : (allowed : Text → Bool) (k : ℕ → Expected) (cause : Cause) (s : Symbol)
      → C (named_next p allowed k (refuses cause) s) → NameMeans allowed s k
  named_means allowed k cause s h = name_means allowed s k (named-forth C none p allowed k cause s h)

  abbrev pub ClassMeans : Symbol → Type 0 → (ℕ → Expected) → Type 0
  ClassMeans s thing k = (IsIri p s owl_thing × thing) ⊎ NameMeans may_be_class s k

  pub class_means : (thing : Move) (k : ℕ → Expected) (cause : Cause) (s : Symbol)
      → C (class_or_thing p thing k (refuses cause) s) → ClassMeans s (C thing) k
  class_means thing k cause s h = by (class-forth C none p thing k cause s h)
    where
      by : (IsIri p s owl_thing × C thing) ⊎ NameDoes C p may_be_class s k → ClassMeans s (C thing) k
      by (inl is) = inl is
      by (inr does) = inr (name_means may_be_class s k does)

  -- ---- roles

  pub role-forth : (k : Role → Expected) (s : Symbol) → C (role_next p k s) → M (role_then k) names (s ∷ ss)
  role-forth k (keyword ObjectInverseOf) h =
      let name = h.so in
      let close = name.so.1.1.1 in
      record {
        «value» = inverse_of (named name.so.0);
        rest = close.rest;
        after = name.so.1.0;
        is =
            subst (λ l. RoleThen p names (keyword ObjectInverseOf ∷ l) (inverse_of (named name.so.0)) close.rest name.so.1.0)
            (sym (h.is ∙ ap (λ l. opening ∷ l) (name.is ∙ ap (λ l. name.token ∷ l) close.is)))
            (expressions.RoleThen.inverse name.so.1.1.0);
        so = close.so;
      }
  role-forth k s h =
      let name = named_means is_free (λ n. k (named n)) syntax s h in
      record {
        «value» = named name.0;
        rest = ss;
        after = name.1.0;
        is = expressions.RoleThen.plain name.1.1.0;
        so = name.1.1.1;
      }

  pub first_role-forth : (k : Role → Expected) (s : Symbol) → C (first_role_next p k s) → M (first_role k) names (s ∷ ss)
  first_role-forth k (keyword ObjectPropertyChain) h = absurd h
  first_role-forth k s h = role-forth k s h

  pub second_role-forth : (k : Role → Expected) (e : Expected) (s : Symbol)
      → C (second_role_next p k e s) → M (second_role k e) names (s ∷ ss)
  second_role-forth k e (keyword ObjectInverseOf) h = inl (role-forth k (keyword ObjectInverseOf) h)
  second_role-forth k e s h =
      let iri =
      iri_means s
      (λ text. if bytes_eq owl_top_object_property text then goes e else name_next is_free text (λ n. k (named n))) syntax h in
      by iri.0 iri.1.0 (bytes_eq owl_top_object_property iri.0) refl iri.1.1
    where
      by : (text : Text) → IsIri p s text → (b : Bool) → bytes_eq owl_top_object_property text ≡ b
          → C (if b then goes e else name_next is_free text (λ n. k (named n))) → M (second_role k e) names (s ∷ ss)
      by text is true same g =
          inr (record { token = s; rest = ss; is = refl; so = (is ∙ ap Some (sym (same-bytes_eq owl_top_object_property text same)), g) })
      by text is false same g =
          let free = if-forth C none (is_free text) (takes_name text (λ n. k (named n))) reserved g in
          let name = name_means is_free s (λ n. k (named n)) (text, (is, free.0, free.1)) in
          inl
          (record {
            «value» = named name.0;
            rest = ss;
            after = name.1.0;
            is = expressions.RoleThen.plain name.1.1.0;
            so = name.1.1.1;
          })

  -- ---- class expressions

  pub sub-forth : (k : Basic → Expected) (s : Symbol) → C (sub_next p k s) → M (sub_then k) names (s ∷ ss)
  sub-forth k (keyword ObjectSomeValuesFrom) h =
      let role = h.so in
      let thing = role.so in
      let close = thing.so.1 in
      record {
        «value» = basic.SomeOf role.value;
        rest = close.rest;
        after = role.after;
        is =
            subst (λ l. SubThen p names (keyword ObjectSomeValuesFrom ∷ l) (basic.SomeOf role.value) close.rest role.after)
            (sym h.is)
            (expressions.SubThen.some
            (subst (λ l. RoleThen p names h.rest role.value l role.after) (thing.is ∙ ap (λ l. thing.token ∷ l) close.is) role.is)
            thing.so.0);
        so = close.so;
      }
  sub-forth k (keyword w) h = absurd h
  sub-forth k s h =
      by (class_means (refuses (left_out Thing)) (λ c. k (basic.Class c)) syntax s h)
    where
      by : ClassMeans s ⊥ (λ c. k (basic.Class c)) → M (sub_then k) names (s ∷ ss)
      by (inl is) = absurd is.1
      by (inr name) = record {
        «value» = basic.Class name.0;
        rest = ss;
        after = name.1.0;
        is = expressions.SubThen.class name.1.1.0;
        so = name.1.1.1;
      }

  pub thing-forth : (e : Expected) (s : Symbol) → C (thing_next p e s) → M (thing_then e) names (s ∷ ss)
  thing-forth e s h =
      let iri =
      iri_means s (λ text. if bytes_eq owl_thing text then goes e else refuses (not_ql ObjectSomeValuesFrom))
      (refused_class ObjectSomeValuesFrom s) h in
      let same = if-forth C none (bytes_eq owl_thing iri.0) (goes e) (not_ql ObjectSomeValuesFrom) iri.1.1 in
      record {
        token = s;
        rest = ss;
        is = refl;
        so = (iri.1.0 ∙ ap Some (sym (same-bytes_eq owl_thing iri.0 same.0)), same.1);
      }

  pub filler-forth : (r : Role) (k : Part → Expected) (s : Symbol) → C (filler_next p r k s) → M (filler_then r k) names (s ∷ ss)
  filler-forth r k s h = record {
    token = s;
    rest = ss;
    is = refl;
    so = class_means (goes (k (part.Any r))) (λ c. k (part.Fill r c)) (refused_class ObjectSomeValuesFrom s) s h;
  }

  pub sup-forth : (k : List Part → Expected) (s : Symbol) → C (sup_next p k s) → M (sup_then k) names (s ∷ ss)
  sup-forth k (keyword ObjectIntersectionOf) h =
      let all = h.so in
      let second = all.is.so.2 in
      let others = second.so.2 in
      record {
        «value» = all.value;
        rest = all.rest;
        after = all.after;
        is =
            subst (λ l. SupThen p names (keyword ObjectIntersectionOf ∷ l) all.value all.rest all.after) (sym h.is)
            (subst (λ ps. SupThen p names (keyword ObjectIntersectionOf ∷ opening ∷ h.rest) ps all.rest all.after)
            (sym (all.is.so.1 ∙ ap (λ l. all.is.value ++ l) second.so.1))
            (expressions.SupThen.intersection all.is.is second.is others));
        so = all.so;
      }
  sup-forth k (keyword ObjectComplementOf) h =
      let sub = h.so in
      let close = sub.so in
      record {
        «value» = part.Not sub.value ∷ [];
        rest = close.rest;
        after = sub.after;
        is =
            subst (λ l. SupThen p names (keyword ObjectComplementOf ∷ l) (part.Not sub.value ∷ []) close.rest sub.after) (sym h.is)
            (expressions.SupThen.complement (subst (λ l. SubThen p names h.rest sub.value l sub.after) close.is sub.is));
        so = close.so;
      }
  sup-forth k (keyword ObjectSomeValuesFrom) h =
      let role = h.so in
      let filler = role.so in
      by role.value role.rest role.after role.is filler.token filler.rest filler.is filler.so
    where
      by : (r : Role) (rest : List Symbol) (after : List Text) → RoleThen p names h.rest r rest after
          → (t : Symbol) (behind : List Symbol) → rest ≡ t ∷ behind
          → (IsIri p t owl_thing × SeesThis closing (λ more. M (k (part.Any r ∷ [])) after more) behind)
          ⊎ ((n : ℕ) × ((later : List Text) × (IsNameOf p may_be_class after t n later
          × SeesThis closing (λ more. M (k (part.Fill r n ∷ [])) later more) behind)))
          → M (sup_then k) names (keyword ObjectSomeValuesFrom ∷ ss)
      by r rest after role t behind is (inl thing) =
          let close = thing.1 in
          record {
            «value» = part.Any r ∷ [];
            rest = close.rest;
            after = after;
            is =
                subst (λ l. SupThen p names (keyword ObjectSomeValuesFrom ∷ l) (part.Any r ∷ []) close.rest after) (sym h.is)
                (expressions.SupThen.any
                (subst (λ l. RoleThen p names h.rest r l after) (is ∙ ap (λ l. t ∷ l) close.is) role) thing.0);
            so = close.so;
          }
      by r rest after role t behind is (inr class) =
          let close = class.1.1.1 in
          record {
            «value» = part.Fill r class.0 ∷ [];
            rest = close.rest;
            after = class.1.0;
            is =
                subst (λ l. SupThen p names (keyword ObjectSomeValuesFrom ∷ l) (part.Fill r class.0 ∷ []) close.rest class.1.0) (sym h.is)
                (expressions.SupThen.fill
                (subst (λ l. RoleThen p names h.rest r l after) (is ∙ ap (λ l. t ∷ l) close.is) role) class.1.1.0);
            so = close.so;
          }
  sup-forth k (keyword w) h = absurd h
  sup-forth k s h = by (class_means (goes (k (part.Thing ∷ []))) (λ c. k (part.Class c ∷ [])) syntax s h)
    where
      by : ClassMeans s (M (k (part.Thing ∷ [])) names ss) (λ c. k (part.Class c ∷ [])) → M (sup_then k) names (s ∷ ss)
      by (inl is) = record {
        «value» = part.Thing ∷ [];
        rest = ss;
        after = names;
        is = expressions.SupThen.thing is.0;
        so = is.1;
      }
      by (inr name) = record {
        «value» = part.Class name.0 ∷ [];
        rest = ss;
        after = name.1.0;
        is = expressions.SupThen.class name.1.1.0;
        so = name.1.1.1;
      }

  -- ---- annotations and individuals

  pub iri-forth : (e : Expected) (s : Symbol) → C (at_iri p s (λ _. goes e) (refuses syntax)) → M (iri_then e) names (s ∷ ss)
  iri-forth e s h =
      let iri = iri_means s (λ _. goes e) syntax h in record { token = s; rest = ss; is = refl; so = (iri.0, (iri.1.0, iri.1.1)) }

  pub subject-forth : (e : Expected) (s : Symbol) → C (subject_next p e s) → M (subject_then e) names (s ∷ ss)
  subject-forth e node h = record { token = node; rest = ss; is = refl; so = (inl refl, h) }
  subject-forth e s h =
      let iri = iri_means s (λ _. goes e) syntax h in
      record { token = s; rest = ss; is = refl; so = (inr (iri.0, iri.1.0), iri.1.1) }

  pub value-forth : (e : Expected) (s : Symbol) → C (value_next p e s) → M (value_then e) names (s ∷ ss)
  value-forth e node h = (h.rest, (subst (λ l. ValueThen p (node ∷ l) (closing ∷ h.rest)) (sym h.is) annotations.ValueThen.blank, h.so))
  value-forth e string h = h
  value-forth e s h =
      let iri = iri_means s (λ _. goes (close_then e)) syntax h in
      let close = iri.1.1 in
      (close.rest, (subst (λ l. ValueThen p (s ∷ l) (closing ∷ close.rest)) (sym close.is) (annotations.ValueThen.iri iri.1.0), close.so))

  pub value_end-forth : (e : Expected) (s : Symbol) → C (value_end_next e s) → M (value_end e) names (s ∷ ss)
  value_end-forth e language h =
      (h.rest, (subst (λ l. ValueThen p (string ∷ language ∷ l) (closing ∷ h.rest)) (sym h.is) annotations.ValueThen.in_language, h.so))
  value_end-forth e caret h =
      let close = h.so.1.1 in (
        close.rest,
        (
          subst (λ l. ValueThen p (string ∷ caret ∷ l) (closing ∷ close.rest))
              (sym (h.is ∙ ap (λ l. h.token ∷ l) close.is)) (annotations.ValueThen.of_datatype h.so.1.0),
          close.so,
        ),
      )
  value_end-forth e closing h = (ss, (annotations.ValueThen.plain, h))
  value_end-forth e s h = absurd h

  -- an annotation, and what is meant behind it
  pub record One (e : Expected) : Type 0 where
    pub rest : List Symbol
    pub so : M e names rest
    pub all : (more : List Symbol) → AnnotationsThen p rest more → AnnotationsThen p (keyword Annotation ∷ ss) more

  pub one_annotation : (e : Expected) → C (annotation_then e) → One e
  one_annotation e h =
      let iri = h.so.1.2 in
      let «value» = iri.so.1.1 in
      record {
        rest = «value».0;
        so = «value».1.1;
        all = λ more others.
            subst (λ l. AnnotationsThen p (keyword Annotation ∷ l) more) (sym h.is)
            (annotations.AnnotationsThen.one
            (subst (λ l. AnnotationsThen p h.rest l) iri.is h.so.1.0) iri.so.1.0 «value».1.0 others);
      }

  pub annotation-forth : (e : Expected) → C (annotation_then (annotations_then e)) → M (annotations_then e) names (keyword Annotation ∷ ss)
  annotation-forth e h =
      let one = one_annotation (annotations_then e) h in (one.so.0, (one.all one.so.0 one.so.1.0, one.so.1.1, one.so.1.2))

  pub property-forth : (k : ℕ → Expected) (s : Symbol) → C (named_next p is_free k (refuses syntax) s) → M (property_then k) names (s ∷ ss)
  property-forth k s h = record { token = s; rest = ss; is = refl; so = named_means is_free k syntax s h }

  pub individual-forth : (k : ℕ → Expected) (s : Symbol) → C (individual_next p k s) → M (individual_then k) names (s ∷ ss)
  individual-forth k s h = record { token = s; rest = ss; is = refl; so = named_means is_free k (refused_individual s) s h }

  pub unnamed-forth : (e : Expected) (s : Symbol) → C (unnamed_next p e s) → M (unnamed_then e) names (s ∷ ss)
  unnamed-forth e s h =
      let iri = iri_means s (λ text. if is_free text then goes e else refuses reserved) (refused_individual s) h in
      let free = if-forth C none (is_free iri.0) (goes e) reserved iri.1.1 in
      record { token = s; rest = ss; is = refl; so = (iri.0, (iri.1.0, free.0, free.1)) }

  pub class_then-forth : (k : Option ℕ → Expected) (cause : Cause) (s : Symbol)
      → C (class_or_thing p (goes (k None)) (λ c. k (Some c)) (refuses cause) s) → M (declared_class k) names (s ∷ ss)
  class_then-forth k cause s h = record {
    token = s;
    rest = ss;
    is = refl;
    so = class_means (goes (k None)) (λ c. k (Some c)) cause s h;
  }

  pub different-forth : (n : ℕ) (before : List Text) (e : Expected) (s : Symbol)
      → C (different_next p before (λ more. different_close n more e) s)
      → (least : ℕ) → least ≤ suc n → M (different_close least before e) names (s ∷ ss)
  different-forth n before e s h least fits =
      let iri =
      iri_means s
      (λ text. if has_name before text then refuses (keyword_left_out DifferentIndividuals)
      else (if is_free text then goes (different_close n (text ∷ before) e) else refuses reserved))
      (refused_individual s) h in
      let new =
      if-other C none (has_name before iri.0) (if is_free iri.0 then goes (different_close n (iri.0 ∷ before) e) else refuses reserved)
      (keyword_left_out DifferentIndividuals) iri.1.1 in
      let free = if-forth C none (is_free iri.0) (goes (different_close n (iri.0 ∷ before) e)) reserved new.1 in
      let others = free.1 in (
        suc others.0,
        (
          others.1.0,
          (
            axioms.DifferentThen.more iri.1.0 free.0 new.0 others.1.1.0,
            omega (arith, fits, others.1.1.1),
            others.1.1.2,
          ),
        ),
      )

  -- ---- axioms

  other_entity : (k : Item → Expected) (w : Keyword)
      → C (if is_other_entity w then goes (open_then (iri_then (close_then (k no_effect)))) else refuses syntax)
      → M (entity_then k) names (keyword w ∷ ss)
  other_entity k w h =
      let does = if-forth C none (is_other_entity w) (goes (open_then (iri_then (close_then (k no_effect))))) syntax h in
      let iri = does.1.so in
      let close = iri.so.1.1 in
      record {
        «value» = no_effect;
        rest = close.rest;
        after = names;
        is =
            subst (λ l. EntityThen p names (keyword w ∷ l) no_effect close.rest names)
            (sym (does.1.is ∙ ap (λ l. opening ∷ l) (iri.is ∙ ap (λ l. iri.token ∷ l) close.is)))
            (axioms.EntityThen.other does.0 iri.so.1.0);
        so = close.so;
      }

  pub entity-forth : (k : Item → Expected) (s : Symbol) → C (entity_next k s) → M (entity_then k) names (s ∷ ss)
  entity-forth k (keyword Class) h =
      let class = h.so in by class.token class.rest class.is class.so
    where
      by : (t : Symbol) (rest : List Symbol) → h.rest ≡ t ∷ rest
          → (IsIri p t owl_thing × SeesThis closing (λ more. M (k no_effect) names more) rest)
          ⊎ ((n : ℕ) × ((after : List Text) × (IsNameOf p may_be_class names t n after
          × SeesThis closing (λ more. M (k (class_item n)) after more) rest)))
          → M (entity_then k) names (keyword Class ∷ ss)
      by t rest is (inl thing) =
          let close = thing.1 in
          record {
            «value» = no_effect;
            rest = close.rest;
            after = names;
            is =
                subst (λ l. EntityThen p names (keyword Class ∷ l) no_effect close.rest names)
                (sym (h.is ∙ ap (λ l. opening ∷ l) (is ∙ ap (λ l. t ∷ l) close.is))) (axioms.EntityThen.thing thing.0);
            so = close.so;
          }
      by t rest is (inr name) =
          let close = name.1.1.1 in
          record {
            «value» = class_item name.0;
            rest = close.rest;
            after = name.1.0;
            is =
                subst (λ l. EntityThen p names (keyword Class ∷ l) (class_item name.0) close.rest name.1.0)
                (sym (h.is ∙ ap (λ l. opening ∷ l) (is ∙ ap (λ l. t ∷ l) close.is))) (axioms.EntityThen.class name.1.1.0);
            so = close.so;
          }
  entity-forth k (keyword ObjectProperty) h =
      let name = h.so in
      let close = name.so.1.1.1 in
      record {
        «value» = role_item name.so.0;
        rest = close.rest;
        after = name.so.1.0;
        is =
            subst (λ l. EntityThen p names (keyword ObjectProperty ∷ l) (role_item name.so.0) close.rest name.so.1.0)
            (sym (h.is ∙ ap (λ l. opening ∷ l) (name.is ∙ ap (λ l. name.token ∷ l) close.is)))
            (axioms.EntityThen.property name.so.1.1.0);
        so = close.so;
      }
  entity-forth k (keyword w) h = other_entity k w h
  entity-forth k s h = absurd h
