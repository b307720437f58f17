-- Where a token and what stands behind it are meant, the token goes on to what is meant: from the plain grammar to reading.
use Rattle.std.proofs.Common.{◌≡◌, ℕ, Bool, true, false, inl, inr, Some, List, [], ◌∷◌, ◌++◌, if◌then◌else◌, refl, sym, ap, ◌∙◌, subst}
use Rattle.std.specs.Str.{bytes_eq}
use Rattle.dl_lex.specs.declared.keyword.Keyword.{Keyword}
use Rattle.dl_lex.specs.declared.keyword.Keyword.TheVariants.{Annotation, ObjectInverseOf, ObjectSomeValuesFrom}
use Rattle.dl_names.specs.NameList.{Text, place_of}
use Rattle.dl_names.proofs.NameListLemmas.{same-bytes_eq}
use Rattle.dl_terms.specs.Roles.{named}
use Rattle.dl_terms.specs.declared.role.Role.{Role}
use Rattle.dl_terms.specs.declared.role.Basic.{Basic}
use Rattle.dl_terms.specs.declared.role.Basic.TheVariants as basic
use Rattle.dl_terms.specs.declared.axiom.Part.{Part}
use Rattle.dl_terms.specs.declared.axiom.Part.TheVariants as part
use Rattle.dl_owl.specs.declared.document.Document.{Document}
use Rattle.dl_owl.specs.declared.fault.Construct.TheVariants.{Thing}
use Rattle.dl_owl.specs.Symbols.{Symbol, opening, closing, full_iri, short_iri, keyword}
use Rattle.dl_owl.specs.Prefixes.{Prefixes, iri_of}
use Rattle.dl_owl.specs.NamesNext.{owl_thing, owl_top_object_property, IsIri, IsNameOf}
use Rattle.dl_names.specs.Iris.{is_free, may_be_class}
use Rattle.dl_owl.specs.Expressions as expressions
use Rattle.dl_owl.specs.Expressions.{RoleThen, SubThen, SupThen, SupsThen, RolesThen, SubsThen}
use Rattle.dl_owl.specs.Causes.{syntax, not_ql, left_out, reserved}
use Rattle.dl_owl.specs.Expected.{Expected, Move, goes, takes_name, refuses}
use Rattle.dl_owl.specs.Steps.{at_iri, named_next, name_next, class_or_thing, refused_class, role_next, first_role_next, second_role_next, sub_next, sup_next, thing_next, filler_next}
use Rattle.dl_owl.proofs.IriLemmas.{at_iri-is, named-is, thing-is, class-is}
use Rattle.dl_owl.proofs.Meaning.{Sees, SeesThis, NoAnnotation, Means, Comes}

-- a token that is seen
pub seen : {P : Symbol → List Symbol → Type 0} (s : Symbol) (ss : List Symbol) → Sees P (s ∷ ss) → P s ss
seen {P} s ss h =
    let head : s ≡ h.token = cc in
    let tail : ss ≡ h.rest = cc in
    subst (λ t. P t ss) (sym head) (subst (λ l. P h.token l) (sym tail) h.so)

pub seen_this : {t : Symbol} {P : List Symbol → Type 0} (s : Symbol) (ss : List Symbol) → SeesThis t P (s ∷ ss) → (s ≡ t) × P ss
seen_this {t} {P} s ss h =
    let head : s ≡ t = cc in
    let tail : ss ≡ h.rest = cc in
    (head, subst (λ l. P l) (sym tail) h.so)

-- an IRI is no keyword
pub iri_is_no_keyword : (p : Prefixes) (s : Symbol) (text : Text) (w : Keyword) → IsIri p s text → s ≡ keyword w → ⊥
iri_is_no_keyword p s text w is same = let none : iri_of p (keyword w) ≡ Some text = ap (iri_of p) (sym same) ∙ is in cc

-- so no annotation begins at one
pub iri-starts : (p : Prefixes) (s : Symbol) (text : Text) (ss : List Symbol) → IsIri p s text → NoAnnotation (s ∷ ss)
iri-starts p s text ss is rest same = iri_is_no_keyword p s text Annotation is (let head : s ≡ keyword Annotation = cc in head)

module _ (document : Document) (final : List Text) (p : Prefixes) (names : List Text) where
  abbrev C : List Symbol → Move → Type 0
  C ss m = Comes document final p m names ss

  abbrev M : Expected → List Text → List Symbol → Type 0
  M e names ss = Means document final p e names ss

  -- a name is taken
  pub takes : (ss : List Symbol) (allowed : Text → Bool) (k : ℕ → Expected) (s : Symbol) (n : ℕ) (after : List Text)
      → (name : IsNameOf p allowed names s n after) → M (k n) after ss → C ss (takes_name name.text k)
  takes ss allowed k s n after name so =
      subst (λ a. M (k (place_of a name.text)) a ss) name.named (subst (λ m. M (k m) after ss) name.at so)

  pub named-back : (ss : List Symbol) (allowed : Text → Bool) (k : ℕ → Expected) (other : Move) (s : Symbol) (n : ℕ) (after : List Text)
      → IsNameOf p allowed names s n after → M (k n) after ss → C ss (named_next p allowed k other s)
  named-back ss allowed k other s n after name so =
      subst (C ss) (sym (named-is p allowed k other s name.text name.iri name.is_allowed)) (takes ss allowed k s n after name so)

  pub class_or-back : (ss : List Symbol) (thing : Move) (k : ℕ → Expected) (other : Move) (s : Symbol) (n : ℕ) (after : List Text)
      → IsNameOf p may_be_class names s n after → M (k n) after ss → C ss (class_or_thing p thing k other s)
  class_or-back ss thing k other s n after name so =
      subst (C ss) (sym (class-is p thing k other s name.text name.iri name.is_allowed)) (takes ss may_be_class k s n after name so)

  pub thing_or-back : (ss : List Symbol) (thing : Move) (k : ℕ → Expected) (other : Move) (s : Symbol)
      → IsIri p s owl_thing → C ss thing → C ss (class_or_thing p thing k other s)
  thing_or-back ss thing k other s is so = subst (C ss) (sym (thing-is p thing k other s is)) so

  pub at_iri-back : (ss : List Symbol) (s : Symbol) (text : Text) (k : Text → Move) (other : Move)
      → IsIri p s text → C ss (k text) → C ss (at_iri p s k other)
  at_iri-back ss s text k other is so = subst (C ss) (sym (at_iri-is p s text k other is)) so

  -- ---- roles

  role_plain : (k : Role → Expected) (s : Symbol) (text : Text) → IsIri p s text
      → role_next p k s ≡ named_next p is_free (λ n. k (named n)) (refuses syntax) s
  role_plain k (full_iri t) text is = refl
  role_plain k (short_iri t) text is = refl
  role_plain k s text is = absurd (cc)

  pub role-back : (ss : List Symbol) (k : Role → Expected) (s : Symbol) (r : Role) (rest : List Symbol) (after : List Text)
      → RoleThen p names (s ∷ ss) r rest after → M (k r) after rest → C ss (role_next p k s)
  role-back ss k s r rest after (expressions.RoleThen.plain {n = n} name) so =
      subst (C ss) (sym (role_plain k s name.text name.iri)) (named-back ss is_free (λ n. k (named n)) (refuses syntax) s n after name so)
  role-back ss k s r rest after (expressions.RoleThen.inverse {s = t} {n = n} name) so = record {
    rest = t ∷ closing ∷ rest;
    is = refl;
    so = record {
      token = t;
      rest = closing ∷ rest;
      is = refl;
      so = (n, (after, (name, record { rest = rest; is = refl; so = so })));
    };
  }

  first_plain : (k : Role → Expected) (s : Symbol) (text : Text) → IsIri p s text → first_role_next p k s ≡ role_next p k s
  first_plain k (full_iri t) text is = refl
  first_plain k (short_iri t) text is = refl
  first_plain k s text is = absurd (cc)

  pub first_role-back : (ss : List Symbol) (k : Role → Expected) (s : Symbol) (r : Role) (rest : List Symbol) (after : List Text)
      → RoleThen p names (s ∷ ss) r rest after → M (k r) after rest → C ss (first_role_next p k s)
  first_role-back ss k s r rest after (expressions.RoleThen.plain name) so =
      subst (C ss) (sym (first_plain k s name.text name.iri)) (role-back ss k s r rest after (expressions.RoleThen.plain name) so)
  first_role-back ss k s r rest after (expressions.RoleThen.inverse {s = t} name) so =
      role-back (opening ∷ t ∷ closing ∷ rest) k (keyword ObjectInverseOf) r rest after (expressions.RoleThen.inverse name) so

  second_plain : (k : Role → Expected) (e : Expected) (s : Symbol) (text : Text) → IsIri p s text
      → second_role_next p k e s
      ≡ at_iri p s (λ text. if bytes_eq owl_top_object_property text then goes e else name_next is_free text (λ n. k (named n))) (refuses syntax)
  second_plain k e (full_iri t) text is = refl
  second_plain k e (short_iri t) text is = refl
  second_plain k e s text is = absurd (cc)

  -- owl:topObjectProperty is no object property that has a name
  top_differs : (text : Text) → is_free text ≡ true → bytes_eq owl_top_object_property text ≡ false
  top_differs text free = by (bytes_eq owl_top_object_property text) refl
    where
      by : (b : Bool) → bytes_eq owl_top_object_property text ≡ b → b ≡ false
      by true same =
          let none : is_free owl_top_object_property ≡ true = ap is_free (same-bytes_eq owl_top_object_property text same) ∙ free in cc
      by false same = refl

  pub second_role-back : (ss : List Symbol) (k : Role → Expected) (e : Expected) (s : Symbol) (r : Role) (rest : List Symbol) (after : List Text)
      → RoleThen p names (s ∷ ss) r rest after → M (k r) after rest → C ss (second_role_next p k e s)
  second_role-back ss k e s r rest after (expressions.RoleThen.plain {n = n} name) so =
      subst (C ss)
      (sym (second_plain k e s name.text name.iri
      ∙ at_iri-is p s name.text
      (λ text. if bytes_eq owl_top_object_property text then goes e else name_next is_free text (λ m. k (named m))) (refuses syntax) name.iri
      ∙ ap (λ b. if b then goes e else name_next is_free name.text (λ m. k (named m))) (top_differs name.text name.is_allowed)
      ∙ ap (λ b. if b then takes_name name.text (λ m. k (named m)) else refuses reserved) name.is_allowed))
      (takes ss is_free (λ m. k (named m)) s n after name so)
  second_role-back ss k e s r rest after (expressions.RoleThen.inverse {s = t} name) so =
      role-back (opening ∷ t ∷ closing ∷ rest) k (keyword ObjectInverseOf) r rest after (expressions.RoleThen.inverse name) so

  pub second_top-back : (ss : List Symbol) (k : Role → Expected) (e : Expected) (s : Symbol)
      → IsIri p s owl_top_object_property → M e names ss → C ss (second_role_next p k e s)
  second_top-back ss k e s is so =
      subst (C ss)
      (sym (second_plain k e s owl_top_object_property is
      ∙ at_iri-is p s owl_top_object_property
      (λ text. if bytes_eq owl_top_object_property text then goes e else name_next is_free text (λ m. k (named m))) (refuses syntax) is))
      so

  -- ---- class expressions

  sub_plain : (k : Basic → Expected) (s : Symbol) (text : Text) → IsIri p s text
      → sub_next p k s ≡ class_or_thing p (refuses (left_out Thing)) (λ c. k (basic.Class c)) (refuses syntax) s
  sub_plain k (full_iri t) text is = refl
  sub_plain k (short_iri t) text is = refl
  sub_plain k s text is = absurd (cc)

  pub sub-back : (ss : List Symbol) (k : Basic → Expected) (s : Symbol) (b : Basic) (rest : List Symbol) (after : List Text)
      → SubThen p names (s ∷ ss) b rest after → M (k b) after rest → C ss (sub_next p k s)
  sub-back ss k s b rest after (expressions.SubThen.class {n = n} name) so =
      subst (C ss) (sym (sub_plain k s name.text name.iri))
      (class_or-back ss (refuses (left_out Thing)) (λ c. k (basic.Class c)) (refuses syntax) s n after name so)
  sub-back ss k s b rest after (expressions.SubThen.some {inner = inner} {r = r} {thing = thing} role is) so = record {
    rest = inner;
    is = refl;
    so = record {
      «value» = r;
      rest = thing ∷ closing ∷ rest;
      after = after;
      is = role;
      so = record { token = thing; rest = closing ∷ rest; is = refl; so = (is, record { rest = rest; is = refl; so = so }) };
    };
  }

  pub thing-back : (ss : List Symbol) (e : Expected) (s : Symbol) → IsIri p s owl_thing → M e names ss → C ss (thing_next p e s)
  thing-back ss e s is so =
      at_iri-back ss s owl_thing (λ text. if bytes_eq owl_thing text then goes e else refuses (not_ql ObjectSomeValuesFrom))
      (refuses (refused_class ObjectSomeValuesFrom s)) is so

  sup_plain : (k : List Part → Expected) (s : Symbol) (text : Text) → IsIri p s text
      → sup_next p k s ≡ class_or_thing p (goes (k (part.Thing ∷ []))) (λ c. k (part.Class c ∷ [])) (refuses syntax) s
  sup_plain k (full_iri t) text is = refl
  sup_plain k (short_iri t) text is = refl
  sup_plain k s text is = absurd (cc)

  pub sup-back : (ss : List Symbol) (k : List Part → Expected) (s : Symbol) (ps : List Part) (rest : List Symbol) (after : List Text)
      → SupThen p names (s ∷ ss) ps rest after → M (k ps) after rest → C ss (sup_next p k s)
  sup-back ss k s ps rest after (expressions.SupThen.thing is) so =
      subst (C ss) (sym (sup_plain k s owl_thing is))
      (thing_or-back ss (goes (k (part.Thing ∷ []))) (λ c. k (part.Class c ∷ [])) (refuses syntax) s is so)
  sup-back ss k s ps rest after (expressions.SupThen.class {n = n} name) so =
      subst (C ss) (sym (sup_plain k s name.text name.iri))
      (class_or-back ss (goes (k (part.Thing ∷ []))) (λ c. k (part.Class c ∷ [])) (refuses syntax) s n after name so)
  sup-back ss k s ps rest after (expressions.SupThen.any {inner = inner} {r = r} {s = t} role is) so = record {
    rest = inner;
    is = refl;
    so = record {
      «value» = r;
      rest = t ∷ closing ∷ rest;
      after = after;
      is = role;
      so = record { token = t; rest = closing ∷ rest; is = refl; so = inl (is, record { rest = rest; is = refl; so = so }) };
    };
  }
  sup-back ss k s ps rest after (expressions.SupThen.fill {between = between} {inner = inner} {r = r} {s = t} {n = n} role name) so = record {
    rest = inner;
    is = refl;
    so = record {
      «value» = r;
      rest = t ∷ closing ∷ rest;
      after = between;
      is = role;
      so = record {
        token = t;
        rest = closing ∷ rest;
        is = refl;
        so = inr (n, (after, (name, record { rest = rest; is = refl; so = so })));
      };
    };
  }
  sup-back ss k s ps rest after (expressions.SupThen.complement {inner = inner} {b = b} sub) so = record {
    rest = inner;
    is = refl;
    so = record {
      «value» = b;
      rest = closing ∷ rest;
      after = after;
      is = sub;
      so = record { rest = rest; is = refl; so = so };
    };
  }
  sup-back ss k s ps rest after (expressions.SupThen.intersection {one = one} {two = two} {first = first} {second = second} {others = others} {ps = ps1} {qs = ps2} {rs = ps3} a b c) so = record {
    rest = first;
    is = refl;
    so = record {
      «value» = ps1 ++ (ps2 ++ ps3);
      rest = rest;
      after = after;
      is = record {
        «value» = ps1;
        rest = second;
        after = one;
        is = a;
        so = (ps2 ++ ps3, refl, record { «value» = ps2; rest = others; after = two; is = b; so = (ps3, refl, c) });
      };
      so = so;
    };
  }

  pub filler_thing-back : (ss : List Symbol) (r : Role) (k : Part → Expected) (s : Symbol)
      → IsIri p s owl_thing → M (k (part.Any r)) names ss → C ss (filler_next p r k s)
  filler_thing-back ss r k s is so =
      thing_or-back ss (goes (k (part.Any r))) (λ c. k (part.Fill r c)) (refuses (refused_class ObjectSomeValuesFrom s)) s is so

  pub filler-back : (ss : List Symbol) (r : Role) (k : Part → Expected) (s : Symbol) (n : ℕ) (after : List Text)
      → IsNameOf p may_be_class names s n after → M (k (part.Fill r n)) after ss → C ss (filler_next p r k s)
  filler-back ss r k s n after name so =
      class_or-back ss (goes (k (part.Any r))) (λ c. k (part.Fill r c)) (refuses (refused_class ObjectSomeValuesFrom s)) s n after name so
