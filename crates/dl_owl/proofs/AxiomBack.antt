-- The same for axioms.
use Rattle.std.proofs.Common.{◌≡◌, ℕ, ◌≤◌, true, inl, inr, List, [], ◌∷◌, length, refl, sym, ap, ◌∙◌, subst, arith}
use Rattle.dl_lex.specs.declared.keyword.Keyword.{Keyword}
use Rattle.dl_lex.specs.declared.keyword.Keyword.TheVariants.{Annotation, SubAnnotationPropertyOf, AnnotationPropertyDomain, AnnotationPropertyRange}
use Rattle.dl_names.specs.NameList.{Text}
use Rattle.dl_terms.specs.declared.role.Role.{Role}
use Rattle.dl_terms.specs.declared.role.Basic.{Basic}
use Rattle.dl_terms.specs.declared.axiom.Part.{Part}
use Rattle.dl_terms.specs.declared.axiom.Axiom.TheVariants as kind
use Rattle.dl_owl.specs.declared.document.Document.{Document}
use Rattle.dl_owl.specs.Symbols.{Symbol, opening, closing, node, keyword}
use Rattle.dl_owl.specs.Prefixes.{Prefixes}
use Rattle.dl_owl.specs.NamesNext.{owl_thing}
use Rattle.dl_owl.specs.Annotations.{AnnotationsThen}
use Rattle.dl_owl.specs.Expressions as expressions
use Rattle.dl_owl.specs.Expressions.{RoleThen, SubThen, SupThen, RolesThen, SubsThen}
use Rattle.dl_owl.specs.declared.item.Item.{Item}
use Rattle.dl_owl.specs.declared.item.Item.TheVariants.{Axiom as axiom_item, Fact as fact_item, Role as role_item, NoEffect as no_effect}
use Rattle.dl_owl.specs.Items.{link}
use Rattle.dl_text.specs.AxiomText.{property_of}
use Rattle.dl_owl.specs.Axioms as axioms
use Rattle.dl_owl.specs.Axioms.{is_other_entity, is_annotation_axiom, EntityThen, DifferentThen, OperandsThen, AxiomThen}
use Rattle.dl_owl.specs.Expected.{Expected, close_then, iri_then, subject_then, value_then, role_then, first_role, second_role, sub_then, sup_then, roles_close, subs_close, individual_then, different_close, class_then, entity_then, Move}
use Rattle.dl_owl.specs.Steps.{axiom_next, begins, member_then, role_and_sup}
use Rattle.dl_owl.proofs.Meaning.{NoAnnotation, Means, Comes}
use Rattle.dl_owl.proofs.Back.{iri-starts}

module _ (p : Prefixes) (names : List Text) where
  -- ---- no operand begins with an annotation

  role-starts : (ss : List Symbol) (r : Role) (rest : List Symbol) (after : List Text) → RoleThen p names ss r rest after → NoAnnotation ss
  role-starts ss r rest after (expressions.RoleThen.plain {s = s} name) = iri-starts p s name.text rest name.iri
  role-starts ss r rest after (expressions.RoleThen.inverse name) = λ l same. cc

  sub-starts : (ss : List Symbol) (b : Basic) (rest : List Symbol) (after : List Text) → SubThen p names ss b rest after → NoAnnotation ss
  sub-starts ss b rest after (expressions.SubThen.class {s = s} name) = iri-starts p s name.text rest name.iri
  sub-starts ss b rest after (expressions.SubThen.some role is) = λ l same. cc

  roles-starts : (ss : List Symbol) (rs : List Role) (rest : List Symbol) (after : List Text)
      → RolesThen p names ss rs rest after → 2 ≤ length rs → NoAnnotation ss
  roles-starts ss rs rest after expressions.RolesThen.none two = absurd (omega (arith, two))
  roles-starts ss rs rest after (expressions.RolesThen.more {one = one} {others = others} {r = r} first them) two =
      role-starts ss r others one first

  subs-starts : (ss : List Symbol) (bs : List Basic) (rest : List Symbol) (after : List Text)
      → SubsThen p names ss bs rest after → 2 ≤ length bs → NoAnnotation ss
  subs-starts ss bs rest after expressions.SubsThen.none two = absurd (omega (arith, two))
  subs-starts ss bs rest after (expressions.SubsThen.more {one = one} {others = others} {b = b} first them) two =
      sub-starts ss b others one first

  different-starts : (before : List Text) (ss : List Symbol) (count : ℕ) (rest : List Symbol)
      → DifferentThen p before ss count rest → 2 ≤ count → NoAnnotation ss
  different-starts before ss count rest axioms.DifferentThen.none two = absurd (omega (arith, two))
  different-starts before ss count rest (axioms.DifferentThen.more {s = s} {text = text} {others = others} is free new them) two =
      iri-starts p s text others is

  entity-starts : (ss : List Symbol) (i : Item) (rest : List Symbol) (after : List Text) → EntityThen p names ss i rest after → NoAnnotation ss
  entity-starts ss i rest after (axioms.EntityThen.class name) = λ l same. cc
  entity-starts ss i rest after (axioms.EntityThen.thing is) = λ l same. cc
  entity-starts ss i rest after (axioms.EntityThen.property name) = λ l same. cc
  entity-starts ss i rest after (axioms.EntityThen.other {k = w} {s = s} other is) =
      λ l same.
      let word : w ≡ Annotation = cc in
      let none : is_other_entity Annotation ≡ true = ap is_other_entity (sym word) ∙ other in
      cc

module _ (document : Document) (final : List Text) (p : Prefixes) (names : List Text) (k : Item → Expected) where
  abbrev C : List Symbol → Move → Type 0
  C ss m = Comes document final p m names ss

  abbrev M : Expected → List Text → List Symbol → Type 0
  M e names ss = Means document final p e names ss

  annotation_axiom_begins : (w : Keyword) → is_annotation_axiom w ≡ true
      → axiom_next k (keyword w) ≡ begins (iri_then (iri_then (close_then (k no_effect))))
  annotation_axiom_begins SubAnnotationPropertyOf is = refl
  annotation_axiom_begins AnnotationPropertyDomain is = refl
  annotation_axiom_begins AnnotationPropertyRange is = refl
  annotation_axiom_begins w is = absurd (cc)

  module _ (inner operands : List Symbol) (annotated : AnnotationsThen p inner operands) where
    begins-back : (e : Expected) → NoAnnotation operands → M e names operands → C (opening ∷ inner) (begins e)
    begins-back e none so = record { rest = inner; is = refl; so = (operands, (annotated, none, so)) }

    one_role : (r : Role) (item : Role → Item) (rest : List Symbol) (after : List Text)
        → RoleThen p names operands r (closing ∷ rest) after → M (k (item r)) after rest
        → C (opening ∷ inner) (begins (role_then (λ r. close_then (k (item r)))))
    one_role r item rest after role so =
        begins-back (role_then (λ r. close_then (k (item r)))) (role-starts p names operands r (closing ∷ rest) after role)
        (record { «value» = r; rest = closing ∷ rest; after = after; is = role; so = record { rest = rest; is = refl; so = so } })

    role_sup : (r : Role) (ps : List Part) (item : Role → List Part → Item) (second rest : List Symbol) (one after : List Text)
        → RoleThen p names operands r second one → SupThen p one second ps (closing ∷ rest) after → M (k (item r ps)) after rest
        → C (opening ∷ inner) (begins (role_and_sup (λ r ps. close_then (k (item r ps)))))
    role_sup r ps item second rest one after role sup so =
        begins-back (role_and_sup (λ r ps. close_then (k (item r ps)))) (role-starts p names operands r second one role)
        (record {
          «value» = r;
          rest = second;
          after = one;
          is = role;
          so = record { «value» = ps; rest = closing ∷ rest; after = after; is = sup; so = record { rest = rest; is = refl; so = so } };
        })

    two_subs : (bs : List Basic) (item : List Basic → Item) (rest : List Symbol) (after : List Text)
        → SubsThen p names operands bs (closing ∷ rest) after → 2 ≤ length bs → M (k (item bs)) after rest
        → C (opening ∷ inner) (begins (subs_close 2 [] (λ bs. k (item bs))))
    two_subs bs item rest after all two so =
        begins-back (subs_close 2 [] (λ bs. k (item bs))) (subs-starts p names operands bs (closing ∷ rest) after all two)
        (record { «value» = bs; rest = rest; after = after; is = (all, two); so = so })

    two_roles : (rs : List Role) (item : List Role → Item) (rest : List Symbol) (after : List Text)
        → RolesThen p names operands rs (closing ∷ rest) after → 2 ≤ length rs → M (k (item rs)) after rest
        → C (opening ∷ inner) (begins (roles_close 2 [] (λ rs. k (item rs))))
    two_roles rs item rest after all two so =
        begins-back (roles_close 2 [] (λ rs. k (item rs))) (roles-starts p names operands rs (closing ∷ rest) after all two)
        (record { «value» = rs; rest = rest; after = after; is = (all, two); so = so })

  pub operands-back : (inner operands : List Symbol) → AnnotationsThen p inner operands → (w : Keyword) (i : Item) (rest : List Symbol) (after : List Text)
      → OperandsThen p w names operands i (closing ∷ rest) after → M (k i) after rest
      → C (opening ∷ inner) (axiom_next k (keyword w))
  operands-back inner operands annotated w i rest after (axioms.OperandsThen.sub_class {one = one} {second = second} {b = b} {ps = ps} sub sup) so =
      begins-back inner operands annotated (sub_then (λ b. sup_then (λ ps. close_then (k (axiom_item (kind.SubClass b ps))))))
      (sub-starts p names operands b second one sub)
      (record {
        «value» = b;
        rest = second;
        after = one;
        is = sub;
        so = record { «value» = ps; rest = closing ∷ rest; after = after; is = sup; so = record { rest = rest; is = refl; so = so } };
      })
  operands-back inner operands annotated w i rest after (axioms.OperandsThen.equivalent_classes {bs = bs} all two) so =
      two_subs inner operands annotated bs (λ bs. axiom_item (kind.EquivalentClasses bs)) rest after all two so
  operands-back inner operands annotated w i rest after (axioms.OperandsThen.disjoint_classes {bs = bs} all two) so =
      two_subs inner operands annotated bs (λ bs. axiom_item (kind.DisjointClasses bs)) rest after all two so
  operands-back inner operands annotated w i rest after (axioms.OperandsThen.sub_role {one = one} {second = second} {r = r} {s = s} first other) so =
      begins-back inner operands annotated (first_role (λ r. second_role (λ s. close_then (k (axiom_item (kind.SubRole r s)))) (close_then (k (role_item (property_of r))))))
      (role-starts p names operands r second one first)
      (record {
        «value» = r;
        rest = second;
        after = one;
        is = first;
        so = inl (record { «value» = s; rest = closing ∷ rest; after = after; is = other; so = record { rest = rest; is = refl; so = so } });
      })
  operands-back inner operands annotated w i rest after (axioms.OperandsThen.sub_top {r = r} {top = top} first is) so =
      begins-back inner operands annotated (first_role (λ r. second_role (λ s. close_then (k (axiom_item (kind.SubRole r s)))) (close_then (k (role_item (property_of r))))))
      (role-starts p names operands r (top ∷ closing ∷ rest) after first)
      (record {
        «value» = r;
        rest = top ∷ closing ∷ rest;
        after = after;
        is = first;
        so = inr (record { token = top; rest = closing ∷ rest; is = refl; so = (is, record { rest = rest; is = refl; so = so }) });
      })
  operands-back inner operands annotated w i rest after (axioms.OperandsThen.equivalent_roles {rs = rs} all two) so =
      two_roles inner operands annotated rs (λ rs. axiom_item (kind.EquivalentRoles rs)) rest after all two so
  operands-back inner operands annotated w i rest after (axioms.OperandsThen.disjoint_roles {rs = rs} all two) so =
      two_roles inner operands annotated rs (λ rs. axiom_item (kind.DisjointRoles rs)) rest after all two so
  operands-back inner operands annotated w i rest after (axioms.OperandsThen.inverse_roles {one = one} {second = second} {r = r} {s = s} first other) so =
      begins-back inner operands annotated (role_then (λ r. role_then (λ s. close_then (k (axiom_item (kind.InverseRoles r s))))))
      (role-starts p names operands r second one first)
      (record {
        «value» = r;
        rest = second;
        after = one;
        is = first;
        so = record { «value» = s; rest = closing ∷ rest; after = after; is = other; so = record { rest = rest; is = refl; so = so } };
      })
  operands-back inner operands annotated w i rest after (axioms.OperandsThen.domain {one = one} {second = second} {r = r} {ps = ps} role sup) so =
      role_sup inner operands annotated r ps (λ r ps. axiom_item (kind.Domain r ps)) second rest one after role sup so
  operands-back inner operands annotated w i rest after (axioms.OperandsThen.range {one = one} {second = second} {r = r} {ps = ps} role sup) so =
      role_sup inner operands annotated r ps (λ r ps. axiom_item (kind.Range r ps)) second rest one after role sup so
  operands-back inner operands annotated w i rest after (axioms.OperandsThen.symmetric {r = r} role) so =
      one_role inner operands annotated r (λ r. axiom_item (kind.Symmetric r)) rest after role so
  operands-back inner operands annotated w i rest after (axioms.OperandsThen.asymmetric {r = r} role) so =
      one_role inner operands annotated r (λ r. axiom_item (kind.Asymmetric r)) rest after role so
  operands-back inner operands annotated w i rest after (axioms.OperandsThen.irreflexive {r = r} role) so =
      one_role inner operands annotated r (λ r. axiom_item (kind.Irreflexive r)) rest after role so
  operands-back inner operands annotated w i rest after (axioms.OperandsThen.is_in {one = one} {s = s} {t = t} {c = c} {a = a} class who) so =
      begins-back inner operands annotated (class_then (member_then k)) (iri-starts p s class.text (t ∷ closing ∷ rest) class.iri)
      (record {
        token = s;
        rest = t ∷ closing ∷ rest;
        is = refl;
        so =
            inr (
              c,
              (
                one,
                (
                  class,
                  record {
                    token = t;
                    rest = closing ∷ rest;
                    is = refl;
                    so = (a, (after, (who, record { rest = rest; is = refl; so = so })));
                  },
                ),
              ),
            );
      })
  operands-back inner operands annotated w i rest after (axioms.OperandsThen.in_thing {s = s} {t = t} {text = text} thing is free) so =
      begins-back inner operands annotated (class_then (member_then k)) (iri-starts p s owl_thing (t ∷ closing ∷ rest) thing)
      (record {
        token = s;
        rest = t ∷ closing ∷ rest;
        is = refl;
        so =
            inl (
              thing,
              record {
                token = t;
                rest = closing ∷ rest;
                is = refl;
                so = (text, (is, free, record { rest = rest; is = refl; so = so }));
              },
            );
      })
  operands-back inner operands annotated w i rest after (axioms.OperandsThen.joined {one = one} {two = two} {r = r} {s = s} {t = t} {a = a} {b = b} role first second) so =
      begins-back inner operands annotated (role_then (λ r. individual_then (λ a. individual_then (λ b. close_then (k (fact_item (link r a b)))))))
      (role-starts p names operands r (s ∷ t ∷ closing ∷ rest) one role)
      (record {
        «value» = r;
        rest = s ∷ t ∷ closing ∷ rest;
        after = one;
        is = role;
        so = record {
          token = s;
          rest = t ∷ closing ∷ rest;
          is = refl;
          so = (
            a,
            (
              two,
              (
                first,
                record {
                  token = t;
                  rest = closing ∷ rest;
                  is = refl;
                  so = (b, (after, (second, record { rest = rest; is = refl; so = so })));
                },
              ),
            ),
          );
        };
      })
  operands-back inner operands annotated w i rest after (axioms.OperandsThen.different {count = count} all two) so =
      begins-back inner operands annotated (different_close 2 [] (k no_effect)) (different-starts p names [] operands count (closing ∷ rest) all two)
      (count, (rest, (all, two, so)))
  operands-back inner operands annotated w i rest after (axioms.OperandsThen.declaration {item = item} entity) so =
      begins-back inner operands annotated (entity_then (λ i. close_then (k i))) (entity-starts p names operands item (closing ∷ rest) after entity)
      (record {
        «value» = item;
        rest = closing ∷ rest;
        after = after;
        is = entity;
        so = record { rest = rest; is = refl; so = so };
      })
  operands-back inner operands annotated w i rest after (axioms.OperandsThen.annotation_of_iri {s = s} {t = t} {one = one} {two = two} {«value» = v} is also said) so =
      begins-back inner operands annotated (iri_then (subject_then (value_then (k no_effect)))) (iri-starts p s one (t ∷ v) is)
      (record {
        token = s;
        rest = t ∷ v;
        is = refl;
        so = (one, (is, record { token = t; rest = v; is = refl; so = (inr (two, also), (rest, (said, so))) }));
      })
  operands-back inner operands annotated w i rest after (axioms.OperandsThen.annotation_of_node {s = s} {one = one} {«value» = v} is said) so =
      begins-back inner operands annotated (iri_then (subject_then (value_then (k no_effect)))) (iri-starts p s one (node ∷ v) is)
      (record {
        token = s;
        rest = node ∷ v;
        is = refl;
        so = (one, (is, record { token = node; rest = v; is = refl; so = (inl refl, (rest, (said, so))) }));
      })
  operands-back inner operands annotated w i rest after (axioms.OperandsThen.annotation_axiom {s = s} {t = t} {one = one} {two = two} word is also) so =
      subst (C (opening ∷ inner)) (sym (annotation_axiom_begins w word))
      (begins-back inner operands annotated (iri_then (iri_then (close_then (k no_effect)))) (iri-starts p s one (t ∷ closing ∷ rest) is)
      (record {
        token = s;
        rest = t ∷ closing ∷ rest;
        is = refl;
        so = (
          one,
          (
            is,
            record {
              token = t;
              rest = closing ∷ rest;
              is = refl;
              so = (two, (also, record { rest = rest; is = refl; so = so }));
            },
          ),
        );
      }))

  pub axiom-back : (s : Symbol) (ss : List Symbol) (i : Item) (rest : List Symbol) (after : List Text)
      → AxiomThen p names (s ∷ ss) i rest after → M (k i) after rest → C ss (axiom_next k s)
  axiom-back s ss i rest after (axioms.AxiomThen.axiom_of {k = w} {inner = inner} {operands = operands} annotated all) so =
      operands-back inner operands annotated w i rest after all so
