-- The same for lists, annotations and individuals.
use Rattle.std.proofs.Common.{◌≡◌, ℕ, suc, zero, ◌≤◌, true, false, ◌⊎◌, inl, inr, List, [], ◌∷◌, ◌++◌, length, if◌then◌else◌, refl, sym, subst, arith, append_assoc, append-nil}
use Rattle.dl_lex.specs.declared.keyword.Keyword.{Keyword}
use Rattle.dl_lex.specs.declared.keyword.Keyword.TheVariants.{DifferentIndividuals, NamedIndividual, AnnotationProperty, Datatype, DataProperty}
use Rattle.dl_names.specs.NameList.{Text, has_name}
use Rattle.dl_terms.specs.declared.role.Role.{Role}
use Rattle.dl_terms.specs.declared.role.Basic.{Basic}
use Rattle.dl_terms.specs.declared.axiom.Part.{Part}
use Rattle.dl_owl.specs.declared.document.Document.{Document}
use Rattle.dl_owl.specs.Symbols.{Symbol, opening, closing, full_iri, short_iri, string, node, keyword}
use Rattle.dl_owl.specs.Prefixes.{Prefixes}
use Rattle.dl_owl.specs.NamesNext.{owl_thing, IsIri}
use Rattle.dl_names.specs.Iris.{is_free}
use Rattle.dl_owl.specs.Annotations as annotations
use Rattle.dl_owl.specs.Annotations.{ValueThen, AnnotationsThen}
use Rattle.dl_owl.specs.Expressions as expressions
use Rattle.dl_owl.specs.Expressions.{RoleThen, SubThen, SupThen, SupsThen, RolesThen, SubsThen}
use Rattle.dl_owl.specs.declared.item.Item.{Item}
use Rattle.dl_owl.specs.declared.item.Item.TheVariants.{NoEffect as no_effect}
use Rattle.dl_owl.specs.Axioms as axioms
use Rattle.dl_owl.specs.Axioms.{is_other_entity, EntityThen, DifferentThen}
use Rattle.dl_owl.specs.Causes.{syntax, reserved}
use Rattle.dl_owl.specs.Expected.{Expected, open_then, close_then, iri_then, roles_close, subs_close, sups_close, different_close, Move, goes, refuses}
use Rattle.dl_owl.specs.Refused.{keyword_left_out}
use Rattle.dl_owl.specs.Steps.{at_iri, close_or, refused_individual, role_next, sub_next, sup_next, annotation_then, subject_next, value_next, value_end_next, unnamed_next, different_next, entity_next, move_of}
use Rattle.dl_owl.proofs.Meaning.{SupsAtLeast, Means, Comes}
use Rattle.dl_owl.proofs.Back.{iri-starts, at_iri-back, role-back, sub-back, sup-back}

module _ (document : Document) (final : List Text) (p : Prefixes) (names : List Text) where
  abbrev C : List Symbol → Move → Type 0
  C ss m = Comes document final p m names ss

  abbrev M : Expected → List Text → List Symbol → Type 0
  M e names ss = Means document final p e names ss

  -- ---- no operand begins with )

  iri_not_closing : (e : Expected) (s : Symbol) (text : Text) (m : Move) → IsIri p s text → close_or e s m ≡ m
  iri_not_closing e (full_iri t) text m is = refl
  iri_not_closing e (short_iri t) text m is = refl
  iri_not_closing e s text m is = absurd (cc)

  role_not_closing : (e : Expected) (ss : List Symbol) (s : Symbol) (m : Move) (r : Role) (rest : List Symbol) (after : List Text)
      → RoleThen p names (s ∷ ss) r rest after → close_or e s m ≡ m
  role_not_closing e ss s m r rest after (expressions.RoleThen.plain name) = iri_not_closing e s name.text m name.iri
  role_not_closing e ss s m r rest after (expressions.RoleThen.inverse name) = refl

  sub_not_closing : (e : Expected) (ss : List Symbol) (s : Symbol) (m : Move) (b : Basic) (rest : List Symbol) (after : List Text)
      → SubThen p names (s ∷ ss) b rest after → close_or e s m ≡ m
  sub_not_closing e ss s m b rest after (expressions.SubThen.class name) = iri_not_closing e s name.text m name.iri
  sub_not_closing e ss s m b rest after (expressions.SubThen.some role is) = refl

  sup_not_closing : (e : Expected) (ss : List Symbol) (s : Symbol) (m : Move) (ps : List Part) (rest : List Symbol) (after : List Text)
      → SupThen p names (s ∷ ss) ps rest after → close_or e s m ≡ m
  sup_not_closing e ss s m ps rest after (expressions.SupThen.thing is) = iri_not_closing e s owl_thing m is
  sup_not_closing e ss s m ps rest after (expressions.SupThen.class name) = iri_not_closing e s name.text m name.iri
  sup_not_closing e ss s m ps rest after (expressions.SupThen.any role is) = refl
  sup_not_closing e ss s m ps rest after (expressions.SupThen.fill role name) = refl
  sup_not_closing e ss s m ps rest after (expressions.SupThen.complement sub) = refl
  sup_not_closing e ss s m ps rest after (expressions.SupThen.intersection a b c) = refl

  -- ---- lists

  behind : {V : Type 0} (k : List V → Expected) (before more others : List V) (after : List Text) (rest : List Symbol)
      → M (k (before ++ (more ++ others))) after rest → M (k (before ++ more ++ others)) after rest
  behind k before more others after rest h = subst (λ l. M (k l) after rest) (sym (append_assoc before more others)) h

  pub roles-back : (ss : List Symbol) (n : ℕ) (before : List Role) (k : List Role → Expected) (s : Symbol) (rs : List Role) (rest : List Symbol) (after : List Text)
      → RolesThen p names (s ∷ ss) rs (closing ∷ rest) after → n ≤ length rs → M (k (before ++ rs)) after rest
      → C ss (move_of p (roles_close n before k) s)
  roles-back ss zero before k s rs rest after expressions.RolesThen.none fits so =
      subst (λ l. M (k l) names ss) (append-nil before) so
  roles-back ss (suc n) before k s rs rest after expressions.RolesThen.none fits so = absurd (omega (arith, fits))
  roles-back ss zero before k s rs rest after (expressions.RolesThen.more {one = one} {others = others} {r = r} {rs = more} first them) fits so =
      let e : Expected = k before in
      subst (C ss) (sym (role_not_closing e ss s (role_next p (λ x. roles_close zero (before ++ x ∷ []) k) s) r others one first))
      (role-back document final p names ss (λ x. roles_close zero (before ++ x ∷ []) k) s r others one first
      (record { «value» = more; rest = rest; after = after; is = (them, omega arith); so = behind k before (r ∷ []) more after rest so }))
  roles-back ss (suc n) before k s rs rest after (expressions.RolesThen.more {one = one} {others = others} {r = r} {rs = more} first them) fits so =
      role-back document final p names ss (λ x. roles_close n (before ++ x ∷ []) k) s r others one first
      (record { «value» = more; rest = rest; after = after; is = (them, omega (arith, fits)); so = behind k before (r ∷ []) more after rest so })

  pub subs-back : (ss : List Symbol) (n : ℕ) (before : List Basic) (k : List Basic → Expected) (s : Symbol) (bs : List Basic) (rest : List Symbol) (after : List Text)
      → SubsThen p names (s ∷ ss) bs (closing ∷ rest) after → n ≤ length bs → M (k (before ++ bs)) after rest
      → C ss (move_of p (subs_close n before k) s)
  subs-back ss zero before k s bs rest after expressions.SubsThen.none fits so =
      subst (λ l. M (k l) names ss) (append-nil before) so
  subs-back ss (suc n) before k s bs rest after expressions.SubsThen.none fits so = absurd (omega (arith, fits))
  subs-back ss zero before k s bs rest after (expressions.SubsThen.more {one = one} {others = others} {b = b} {bs = more} first them) fits so =
      let e : Expected = k before in
      subst (C ss) (sym (sub_not_closing e ss s (sub_next p (λ x. subs_close zero (before ++ x ∷ []) k) s) b others one first))
      (sub-back document final p names ss (λ x. subs_close zero (before ++ x ∷ []) k) s b others one first
      (record { «value» = more; rest = rest; after = after; is = (them, omega arith); so = behind k before (b ∷ []) more after rest so }))
  subs-back ss (suc n) before k s bs rest after (expressions.SubsThen.more {one = one} {others = others} {b = b} {bs = more} first them) fits so =
      sub-back document final p names ss (λ x. subs_close n (before ++ x ∷ []) k) s b others one first
      (record { «value» = more; rest = rest; after = after; is = (them, omega (arith, fits)); so = behind k before (b ∷ []) more after rest so })

  sups_any-back : (ss : List Symbol) (before : List Part) (k : List Part → Expected) (s : Symbol) (ps : List Part) (rest : List Symbol) (after : List Text)
      → SupsThen p names (s ∷ ss) ps (closing ∷ rest) after → M (k (before ++ ps)) after rest
      → C ss (move_of p (sups_close zero before k) s)
  sups_any-back ss before k s ps rest after expressions.SupsThen.none so = subst (λ l. M (k l) names ss) (append-nil before) so
  sups_any-back ss before k s ps rest after (expressions.SupsThen.more {one = one} {others = others} {ps = qs} {qs = more} first them) so =
      let e : Expected = k before in
      subst (C ss) (sym (sup_not_closing e ss s (sup_next p (λ x. sups_close zero (before ++ x) k) s) qs others one first))
      (sup-back document final p names ss (λ x. sups_close zero (before ++ x) k) s qs others one first
      (record { «value» = more; rest = rest; after = after; is = them; so = behind k before qs more after rest so }))

  pub sups-back : (ss : List Symbol) (n : ℕ) (before : List Part) (k : List Part → Expected) (s : Symbol) (ps : List Part) (rest : List Symbol) (after : List Text)
      → SupsAtLeast p n names (s ∷ ss) ps (closing ∷ rest) after → M (k (before ++ ps)) after rest
      → C ss (move_of p (sups_close n before k) s)
  sups-back ss zero before k s ps rest after h so = sups_any-back ss before k s ps rest after h so
  sups-back ss (suc n) before k s ps rest after h so =
      let others = h.so in
      sup-back document final p names ss (λ x. sups_close n (before ++ x) k) s h.value h.rest h.after h.is
      (record {
        «value» = others.0;
        rest = rest;
        after = after;
        is = others.2;
        so =
            behind k before h.value others.0 after rest (subst (λ l. M (k (before ++ l)) after rest) others.1 so);
      })

  -- ---- annotations and individuals

  pub one_annotation-back : (e : Expected) (inner «value» more : List Symbol) (s : Symbol) (text : Text)
      → AnnotationsThen p inner (s ∷ «value») → IsIri p s text → ValueThen p «value» (closing ∷ more) → M e names more
      → C (opening ∷ inner) (annotation_then e)
  one_annotation-back e inner «value» more s text annotated is v so = record {
    rest = inner;
    is = refl;
    so = (
      s ∷ «value»,
      (
        annotated,
        iri-starts p s text «value» is,
        record { token = s; rest = «value»; is = refl; so = (text, (is, (more, (v, so)))) },
      ),
    );
  }

  subject_plain : (e : Expected) (s : Symbol) (text : Text) → IsIri p s text → subject_next p e s ≡ at_iri p s (λ _. goes e) (refuses syntax)
  subject_plain e (full_iri t) text is = refl
  subject_plain e (short_iri t) text is = refl
  subject_plain e s text is = absurd (cc)

  pub subject-back : (ss : List Symbol) (e : Expected) (s : Symbol) → (s ≡ node) ⊎ ((text : Text) × IsIri p s text) → M e names ss
      → C ss (subject_next p e s)
  subject-back ss e s (inl is) so = subst (λ t. C ss (subject_next p e t)) (sym is) so
  subject-back ss e s (inr iri) so =
      subst (C ss) (sym (subject_plain e s iri.0 iri.1)) (at_iri-back document final p names ss s iri.0 (λ _. goes e) (refuses syntax) iri.1 so)

  value_plain : (e : Expected) (s : Symbol) (text : Text) → IsIri p s text
      → value_next p e s ≡ at_iri p s (λ _. goes (close_then e)) (refuses syntax)
  value_plain e (full_iri t) text is = refl
  value_plain e (short_iri t) text is = refl
  value_plain e s text is = absurd (cc)

  pub value-back : (ss : List Symbol) (e : Expected) (s : Symbol) (rest : List Symbol)
      → ValueThen p (s ∷ ss) (closing ∷ rest) → M e names rest → C ss (value_next p e s)
  value-back ss e s rest (annotations.ValueThen.iri {text = text} is) so =
      subst (C ss) (sym (value_plain e s text is))
      (at_iri-back document final p names ss s text (λ _. goes (close_then e)) (refuses syntax) is (record { rest = rest; is = refl; so = so }))
  value-back ss e s rest annotations.ValueThen.blank so = record { rest = rest; is = refl; so = so }
  value-back ss e s rest annotations.ValueThen.plain so = (rest, (annotations.ValueThen.plain, so))
  value-back ss e s rest annotations.ValueThen.in_language so = (rest, (annotations.ValueThen.in_language, so))
  value-back ss e s rest (annotations.ValueThen.of_datatype is) so = (rest, (annotations.ValueThen.of_datatype is, so))

  pub value_end-back : (ss : List Symbol) (e : Expected) (s : Symbol) (rest : List Symbol)
      → ValueThen p (string ∷ s ∷ ss) (closing ∷ rest) → M e names rest → C ss (value_end_next e s)
  value_end-back ss e s rest (annotations.ValueThen.iri is) so = absurd (cc)
  value_end-back ss e s rest annotations.ValueThen.plain so = so
  value_end-back ss e s rest annotations.ValueThen.in_language so = record { rest = rest; is = refl; so = so }
  value_end-back ss e s rest (annotations.ValueThen.of_datatype {s = t} {text = text} is) so = record {
    token = t;
    rest = closing ∷ rest;
    is = refl;
    so = (text, (is, record { rest = rest; is = refl; so = so }));
  }

  pub unnamed-back : (ss : List Symbol) (e : Expected) (s : Symbol) (text : Text)
      → IsIri p s text → is_free text ≡ true → M e names ss → C ss (unnamed_next p e s)
  unnamed-back ss e s text is free so =
      at_iri-back document final p names ss s text (λ t. if is_free t then goes e else refuses reserved) (refuses (refused_individual s)) is
      (subst (λ b. C ss (if b then goes e else refuses reserved)) (sym free) so)

  different_one : (ss : List Symbol) (n : ℕ) (before : List Text) (e : Expected) (s : Symbol) (text : Text)
      → IsIri p s text → is_free text ≡ true → has_name before text ≡ false → M (different_close n (text ∷ before) e) names ss
      → C ss (different_next p before (λ more. different_close n more e) s)
  different_one ss n before e s text is free new so =
      at_iri-back document final p names ss s text
      (λ t. if has_name before t then refuses (keyword_left_out DifferentIndividuals)
      else (if is_free t then goes (different_close n (t ∷ before) e) else refuses reserved))
      (refuses (refused_individual s)) is
      (subst (λ b. C ss (if b then refuses (keyword_left_out DifferentIndividuals)
      else (if is_free text then goes (different_close n (text ∷ before) e) else refuses reserved))) (sym new)
      (subst (λ b. C ss (if b then goes (different_close n (text ∷ before) e) else refuses reserved)) (sym free) so))

  pub different-back : (ss : List Symbol) (n : ℕ) (before : List Text) (e : Expected) (s : Symbol) (count : ℕ) (rest : List Symbol)
      → DifferentThen p before (s ∷ ss) count (closing ∷ rest) → n ≤ count → M e names rest
      → C ss (move_of p (different_close n before e) s)
  different-back ss zero before e s count rest axioms.DifferentThen.none fits so = so
  different-back ss (suc n) before e s count rest axioms.DifferentThen.none fits so = absurd (omega (arith, fits))
  different-back ss zero before e s count rest (axioms.DifferentThen.more {text = text} {count = more} is free new others) fits so =
      subst (C ss) (sym (iri_not_closing e s text (different_next p before (λ l. different_close zero l e) s) is))
      (different_one ss zero before e s text is free new (more, (rest, (others, omega arith, so))))
  different-back ss (suc n) before e s count rest (axioms.DifferentThen.more {text = text} {count = more} is free new others) fits so =
      different_one ss n before e s text is free new (more, (rest, (others, omega (arith, fits), so)))

  -- ---- entities

  other_goes : (k : Item → Expected) (w : Keyword) → is_other_entity w ≡ true
      → entity_next k (keyword w) ≡ goes (open_then (iri_then (close_then (k no_effect))))
  other_goes k NamedIndividual is = refl
  other_goes k AnnotationProperty is = refl
  other_goes k Datatype is = refl
  other_goes k DataProperty is = refl
  other_goes k w is = absurd (cc)

  pub entity-back : (ss : List Symbol) (k : Item → Expected) (s : Symbol) (i : Item) (rest : List Symbol) (after : List Text)
      → EntityThen p names (s ∷ ss) i rest after → M (k i) after rest → C ss (entity_next k s)
  entity-back ss k s i rest after (axioms.EntityThen.class {s = t} {n = n} name) so = record {
    rest = t ∷ closing ∷ rest;
    is = refl;
    so = record {
      token = t;
      rest = closing ∷ rest;
      is = refl;
      so = inr (n, (after, (name, record { rest = rest; is = refl; so = so })));
    };
  }
  entity-back ss k s i rest after (axioms.EntityThen.thing {s = t} is) so = record {
    rest = t ∷ closing ∷ rest;
    is = refl;
    so = record { token = t; rest = closing ∷ rest; is = refl; so = inl (is, record { rest = rest; is = refl; so = so }) };
  }
  entity-back ss k s i rest after (axioms.EntityThen.property {s = t} {n = n} name) so = record {
    rest = t ∷ closing ∷ rest;
    is = refl;
    so = record {
      token = t;
      rest = closing ∷ rest;
      is = refl;
      so = (n, (after, (name, record { rest = rest; is = refl; so = so })));
    };
  }
  entity-back ss k s i rest after (axioms.EntityThen.other {k = w} {s = t} {text = text} other is) so =
      subst (C ss) (sym (other_goes k w other))
      (record {
        rest = t ∷ closing ∷ rest;
        is = refl;
        so = record { token = t; rest = closing ∷ rest; is = refl; so = (text, (is, record { rest = rest; is = refl; so = so })) };
      })
