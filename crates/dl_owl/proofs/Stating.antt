-- Terms whose names stand in a list: their texts spell tokens that the grammar reads as these terms, with no name more.
use Rattle.std.proofs.Common.{◌≡◌, ℕ, ◌+◌, ◌≤◌, Bool, true, false, List, [], ◌∷◌, ◌++◌, map, length, codes, slice_get, unwrap_or, Some, refl, sym, ap, subst, append-nil, arith}
use Rattle.std.specs.Str.{bytes_eq}
use Rattle.dl_lex.specs.declared.keyword.Keyword.TheVariants as keywords
use Rattle.dl_names.specs.NameList.{Text, HasNoRepeats}
use Rattle.dl_names.specs.Iris as iris
use Rattle.dl_names.specs.Iris.{owl_nothing, is_free, may_be_class}
use Rattle.dl_names.proofs.NameListLemmas.{same-bytes_eq, names_after-old, has_name-slice_get, place_of-slice_get}
use Rattle.dl_terms.specs.declared.role.Role.{Role}
use Rattle.dl_terms.specs.declared.role.Basic.{Basic}
use Rattle.dl_terms.specs.declared.role.Basic.TheVariants as basic
use Rattle.dl_terms.specs.declared.axiom.Part.{Part}
use Rattle.dl_terms.specs.declared.axiom.Part.TheVariants as part
use Rattle.dl_terms.specs.declared.axiom.Axiom.{Axiom}
use Rattle.dl_terms.specs.declared.axiom.Axiom.TheVariants as axioms
use Rattle.dl_terms.specs.Roles.{named, inverse_of}
use Rattle.dl_owl.specs.Symbols.{Symbol, opening, closing, full_iri, short_iri, keyword, ending}
use Rattle.dl_owl.specs.Prefixes.{predefined}
use Rattle.dl_owl.specs.NamesNext.{IsIri, IsNameOf}
use Rattle.dl_owl.specs.Annotations as annotations
use Rattle.dl_owl.specs.Expressions as expressions
use Rattle.dl_owl.specs.Expressions.{RoleThen, SubThen, SupThen, SupsThen, RolesThen, SubsThen}
use Rattle.dl_owl.specs.declared.item.Item.TheVariants.{Axiom as axiom_item}
use Rattle.dl_owl.specs.Axioms as grammar_axioms
use Rattle.dl_owl.specs.Axioms.{OperandsThen, AxiomThen}
use Rattle.dl_owl.specs.Reading.{is_shallow}
use Rattle.dl_text.specs.AxiomText.{class_text, role_text, basic_text, part_text, parts_text, axiom_keyword, operand_texts, axiom_text}
use Rattle.dl_text.specs.NameText.{name_text}
use Rattle.dl_text.proofs.TextLemmas.{class_text-nothing, class_text-other}
use Rattle.dl_owl.proofs.Spelling as spelling
use Rattle.dl_owl.proofs.Spelling.{EndsRun, Spells}
use Rattle.dl_owl.proofs.Saying.{Says, Says-deeper, Says-iri, Says-short, SaysAll, Says-construct, thing_word, nothing_word, inverse_word, some_word, intersection_word, complement_word, axiom_word, no_texts, a_text}

-- ---- terms whose names stand in a list

module _ (names : List Text) where
  -- the number is that of a name which may stand there
  pub record IsStated (allowed : Text → Bool) (n : ℕ) : Type 0 where
    pub text : Text
    pub at : slice_get names n ≡ Some text
    pub is_allowed : allowed text ≡ true
    pub iri : iris.IsIri text

  pub data RoleIn : Role → Type 0 where
    plain : {n : ℕ} → IsStated is_free n → RoleIn (named n)
    inverse : {n : ℕ} → IsStated is_free n → RoleIn (inverse_of (named n))

  pub data BasicIn : Basic → Type 0 where
    class : {n : ℕ} → IsStated may_be_class n → BasicIn (basic.Class n)
    some : {r : Role} → RoleIn r → BasicIn (basic.SomeOf r)

  pub data PartIn : Part → Type 0 where
    thing : PartIn part.Thing
    class : {n : ℕ} → IsStated may_be_class n → PartIn (part.Class n)
    any : {r : Role} → RoleIn r → PartIn (part.Any r)
    fill : {r : Role} {n : ℕ} → RoleIn r → IsStated may_be_class n → PartIn (part.Fill r n)
    complement : {b : Basic} → BasicIn b → PartIn (part.Not b)

-- each item of a list
pub data Each {X : Type 0} (P : X → Type 0) : List X → Type 0 where
  no_items : Each P []
  an_item : {x : X} {xs : List X} → P x → Each P xs → Each P (x ∷ xs)

module _ (names : List Text) where
  -- at least one, and each
  pub data PartsIn : List Part → Type 0 where
    parts : {p : Part} {ps : List Part} → PartIn names p → Each (PartIn names) ps → PartsIn (p ∷ ps)

  pub data AxiomIn : Axiom → Type 0 where
    sub_class : {b : Basic} {ps : List Part} → BasicIn names b → PartsIn ps → AxiomIn (axioms.SubClass b ps)
    equivalent_classes : {bs : List Basic} → Each (BasicIn names) bs → 2 ≤ length bs → AxiomIn (axioms.EquivalentClasses bs)
    disjoint_classes : {bs : List Basic} → Each (BasicIn names) bs → 2 ≤ length bs → AxiomIn (axioms.DisjointClasses bs)
    sub_role : {r s : Role} → RoleIn names r → RoleIn names s → AxiomIn (axioms.SubRole r s)
    equivalent_roles : {rs : List Role} → Each (RoleIn names) rs → 2 ≤ length rs → AxiomIn (axioms.EquivalentRoles rs)
    disjoint_roles : {rs : List Role} → Each (RoleIn names) rs → 2 ≤ length rs → AxiomIn (axioms.DisjointRoles rs)
    inverse_roles : {r s : Role} → RoleIn names r → RoleIn names s → AxiomIn (axioms.InverseRoles r s)
    domain : {r : Role} {ps : List Part} → RoleIn names r → PartsIn ps → AxiomIn (axioms.Domain r ps)
    range : {r : Role} {ps : List Part} → RoleIn names r → PartsIn ps → AxiomIn (axioms.Range r ps)
    symmetric : {r : Role} → RoleIn names r → AxiomIn (axioms.Symmetric r)
    asymmetric : {r : Role} → RoleIn names r → AxiomIn (axioms.Asymmetric r)
    irreflexive : {r : Role} → RoleIn names r → AxiomIn (axioms.Irreflexive r)

-- ---- their texts are read as they are

module _ (names : List Text) (distinct : HasNoRepeats names) where
  name_of : (allowed : Text → Bool) (n : ℕ) (h : IsStated names allowed n) (s : Symbol) → IsIri predefined s h.text
      → IsNameOf predefined allowed names s n names
  name_of allowed n h s is = record {
    text = h.text;
    iri = is;
    is_allowed = h.is_allowed;
    named = sym (names_after-old names h.text (has_name-slice_get names h.text n h.at));
    at = sym (place_of-slice_get names h.text distinct n h.at);
  }

  iri_says : (allowed : Text → Bool) (n : ℕ) (h : IsStated names allowed n) → Says (name_text names n) (λ rest. full_iri h.text ∷ rest) 0
  iri_says allowed n h =
      subst (λ t. Says (60 ∷ unwrap_or t [] ++ 62 ∷ []) (λ rest. full_iri h.text ∷ rest) 0) (sym h.at) (Says-iri h.text h.iri)

  pub record ClassStands (n : ℕ) : Type 0 where
    pub symbol : Symbol
    pub says : Says (class_text names n) (λ rest. symbol ∷ rest) 0
    pub named : IsNameOf predefined may_be_class names symbol n names

  class_stands : (n : ℕ) → IsStated names may_be_class n → ClassStands n
  class_stands n h = by (bytes_eq owl_nothing h.text) refl
    where
      by : (b : Bool) → bytes_eq owl_nothing h.text ≡ b → ClassStands n
      by true same = record {
        symbol = short_iri (codes "owl:Nothing");
        says =
            subst (λ t. Says t (λ rest. short_iri (codes "owl:Nothing") ∷ rest) 0) (sym (class_text-nothing names n h.text h.at same))
            (Says-short (codes "owl:Nothing") nothing_word);
        named =
            name_of may_be_class n h (short_iri (codes "owl:Nothing")) (ap Some (same-bytes_eq owl_nothing h.text same));
      }
      by false other = record {
        symbol = full_iri h.text;
        says =
            subst (λ t. Says t (λ rest. full_iri h.text ∷ rest) 0) (sym (class_text-other names n h.text h.at other))
            (iri_says may_be_class n h);
        named = name_of may_be_class n h (full_iri h.text) refl;
      }

  pub record RoleStands (r : Role) : Type 0 where
    pub f : List Symbol → List Symbol
    pub says : Says (role_text names r) f 1
    pub stands : (rest : List Symbol) → RoleThen predefined names (f rest) r rest names

  role_stands : (r : Role) → RoleIn names r → RoleStands r
  role_stands _ (plain {n = n} h) = record {
    f = λ rest. full_iri h.text ∷ rest;
    says = Says-deeper (name_text names n) (λ rest. full_iri h.text ∷ rest) 0 1 (omega arith) (iri_says is_free n h);
    stands = λ rest. expressions.RoleThen.plain (name_of is_free n h (full_iri h.text) refl);
  }
  role_stands _ (inverse {n = n} h) = record {
    f = λ rest. keyword keywords.ObjectInverseOf ∷ opening ∷ full_iri h.text ∷ closing ∷ rest;
    says =
        Says-construct keywords.ObjectInverseOf (name_text names n ∷ []) (λ rest. full_iri h.text ∷ rest) 0 inverse_word
        (a_text (iri_says is_free n h) no_texts);
    stands = λ rest. expressions.RoleThen.inverse (name_of is_free n h (full_iri h.text) refl);
  }

  pub record BasicStands (b : Basic) : Type 0 where
    pub f : List Symbol → List Symbol
    pub says : Says (basic_text names b) f 2
    pub stands : (rest : List Symbol) → SubThen predefined names (f rest) b rest names

  thing_says : Says (codes "owl:Thing") (λ rest. short_iri (codes "owl:Thing") ∷ rest) 1
  thing_says = Says-deeper (codes "owl:Thing") (λ rest. short_iri (codes "owl:Thing") ∷ rest) 0 1 (omega arith) (Says-short (codes "owl:Thing") thing_word)

  basic_stands : (b : Basic) → BasicIn names b → BasicStands b
  basic_stands _ (class {n = n} h) =
      let c = class_stands n h in
      record {
        f = λ rest. c.symbol ∷ rest;
        says = Says-deeper (class_text names n) (λ rest. c.symbol ∷ rest) 0 2 (omega arith) c.says;
        stands = λ rest. expressions.SubThen.class c.named;
      }
  basic_stands _ (some {r = r} h) =
      let role = role_stands r h in
      record {
        f = λ rest. keyword keywords.ObjectSomeValuesFrom ∷ opening ∷ role.f (short_iri (codes "owl:Thing") ∷ closing ∷ rest);
        says =
            Says-construct keywords.ObjectSomeValuesFrom (role_text names r ∷ codes "owl:Thing" ∷ [])
            (λ rest. role.f (short_iri (codes "owl:Thing") ∷ rest)) 1 some_word (a_text role.says (a_text thing_says no_texts));
        stands = λ rest. expressions.SubThen.some (role.stands (short_iri (codes "owl:Thing") ∷ closing ∷ rest)) refl;
      }

  pub record PartStands (p : Part) : Type 0 where
    pub f : List Symbol → List Symbol
    pub says : Says (part_text names p) f 3
    pub stands : (rest : List Symbol) → SupThen predefined names (f rest) (p ∷ []) rest names

  part_stands : (p : Part) → PartIn names p → PartStands p
  part_stands _ thing = record {
    f = λ rest. short_iri (codes "owl:Thing") ∷ rest;
    says = Says-deeper (codes "owl:Thing") (λ rest. short_iri (codes "owl:Thing") ∷ rest) 1 3 (omega arith) thing_says;
    stands = λ rest. expressions.SupThen.thing refl;
  }
  part_stands _ (class {n = n} h) =
      let c = class_stands n h in
      record {
        f = λ rest. c.symbol ∷ rest;
        says = Says-deeper (class_text names n) (λ rest. c.symbol ∷ rest) 0 3 (omega arith) c.says;
        stands = λ rest. expressions.SupThen.class c.named;
      }
  part_stands _ (any {r = r} h) =
      let role = role_stands r h in
      let f : List Symbol → List Symbol = λ rest. keyword keywords.ObjectSomeValuesFrom ∷ opening ∷ role.f (short_iri (codes "owl:Thing") ∷ closing ∷ rest) in
      record {
        f = f;
        says =
            Says-deeper (part_text names (part.Any r)) f 2 3 (omega arith)
            (Says-construct keywords.ObjectSomeValuesFrom (role_text names r ∷ codes "owl:Thing" ∷ [])
            (λ rest. role.f (short_iri (codes "owl:Thing") ∷ rest)) 1 some_word (a_text role.says (a_text thing_says no_texts)));
        stands = λ rest. expressions.SupThen.any (role.stands (short_iri (codes "owl:Thing") ∷ closing ∷ rest)) refl;
      }
  part_stands _ (fill {r = r} {n = n} h g) =
      let role = role_stands r h in
      let c = class_stands n g in
      let f : List Symbol → List Symbol = λ rest. keyword keywords.ObjectSomeValuesFrom ∷ opening ∷ role.f (c.symbol ∷ closing ∷ rest) in
      record {
        f = f;
        says =
            Says-deeper (part_text names (part.Fill r n)) f 2 3 (omega arith)
            (Says-construct keywords.ObjectSomeValuesFrom (role_text names r ∷ class_text names n ∷ [])
            (λ rest. role.f (c.symbol ∷ rest)) 1 some_word
            (a_text role.says (a_text (Says-deeper (class_text names n) (λ rest. c.symbol ∷ rest) 0 1 (omega arith) c.says) no_texts)));
        stands = λ rest. expressions.SupThen.fill (role.stands (c.symbol ∷ closing ∷ rest)) c.named;
      }
  part_stands _ (complement {b = b} h) =
      let inner = basic_stands b h in
      record {
        f = λ rest. keyword keywords.ObjectComplementOf ∷ opening ∷ inner.f (closing ∷ rest);
        says = Says-construct keywords.ObjectComplementOf (basic_text names b ∷ []) inner.f 2 complement_word (a_text inner.says no_texts);
        stands = λ rest. expressions.SupThen.complement (inner.stands (closing ∷ rest));
      }

  -- ---- lists of terms

  pub record RolesStand (rs : List Role) : Type 0 where
    pub f : List Symbol → List Symbol
    pub says : SaysAll (map (role_text names) rs) f 4
    pub stands : (rest : List Symbol) → RolesThen predefined names (f rest) rs rest names

  roles_stand : (rs : List Role) → Each (RoleIn names) rs → RolesStand rs
  roles_stand _ no_items = record { f = λ rest. rest; says = no_texts; stands = λ rest. expressions.RolesThen.none }
  roles_stand _ (an_item {x = r} {xs = rs} h hs) =
      let first = role_stands r h in
      let others = roles_stand rs hs in
      record {
        f = λ rest. first.f (others.f rest);
        says = a_text (Says-deeper (role_text names r) first.f 1 4 (omega arith) first.says) others.says;
        stands = λ rest. expressions.RolesThen.more (first.stands (others.f rest)) (others.stands rest);
      }

  pub record BasicsStand (bs : List Basic) : Type 0 where
    pub f : List Symbol → List Symbol
    pub says : SaysAll (map (basic_text names) bs) f 4
    pub stands : (rest : List Symbol) → SubsThen predefined names (f rest) bs rest names

  basics_stand : (bs : List Basic) → Each (BasicIn names) bs → BasicsStand bs
  basics_stand _ no_items = record { f = λ rest. rest; says = no_texts; stands = λ rest. expressions.SubsThen.none }
  basics_stand _ (an_item {x = b} {xs = bs} h hs) =
      let first = basic_stands b h in
      let others = basics_stand bs hs in
      record {
        f = λ rest. first.f (others.f rest);
        says = a_text (Says-deeper (basic_text names b) first.f 2 4 (omega arith) first.says) others.says;
        stands = λ rest. expressions.SubsThen.more (first.stands (others.f rest)) (others.stands rest);
      }

  pub record EachPartStands (ps : List Part) : Type 0 where
    pub f : List Symbol → List Symbol
    pub says : SaysAll (map (part_text names) ps) f 3
    pub stands : (rest : List Symbol) → SupsThen predefined names (f rest) ps rest names

  each_part_stands : (ps : List Part) → Each (PartIn names) ps → EachPartStands ps
  each_part_stands _ no_items = record { f = λ rest. rest; says = no_texts; stands = λ rest. expressions.SupsThen.none }
  each_part_stands _ (an_item {x = p} {xs = ps} h hs) =
      let first = part_stands p h in
      let others = each_part_stands ps hs in
      record {
        f = λ rest. first.f (others.f rest);
        says = a_text first.says others.says;
        stands = λ rest. expressions.SupsThen.more (first.stands (others.f rest)) (others.stands rest);
      }

  -- one part as it is, several as one intersection
  pub record PartsStand (ps : List Part) : Type 0 where
    pub f : List Symbol → List Symbol
    pub says : Says (parts_text names ps) f 4
    pub stands : (rest : List Symbol) → SupThen predefined names (f rest) ps rest names

  parts_stand : (ps : List Part) → PartsIn names ps → PartsStand ps
  parts_stand _ (parts {p = p} h no_items) =
      let first = part_stands p h in
      record {
        f = first.f;
        says = Says-deeper (part_text names p) first.f 3 4 (omega arith) first.says;
        stands = first.stands;
      }
  parts_stand _ (parts {p = p} h (an_item {x = q} {xs = ps} g gs)) =
      let first = part_stands p h in
      let second = part_stands q g in
      let others = each_part_stands ps gs in
      record {
        f = λ rest. keyword keywords.ObjectIntersectionOf ∷ opening ∷ first.f (second.f (others.f (closing ∷ rest)));
        says =
            Says-construct keywords.ObjectIntersectionOf (part_text names p ∷ part_text names q ∷ map (part_text names) ps)
            (λ rest. first.f (second.f (others.f rest))) 3 intersection_word
            (a_text first.says (a_text second.says others.says));
        stands = λ rest.
            expressions.SupThen.intersection (first.stands (second.f (others.f (closing ∷ rest))))
            (second.stands (others.f (closing ∷ rest))) (others.stands (closing ∷ rest));
      }

  -- ---- axioms

  pub record OperandsStand (a : Axiom) : Type 0 where
    pub f : List Symbol → List Symbol
    pub says : SaysAll (operand_texts names a) f 4
    pub stands : (rest : List Symbol) → OperandsThen predefined (axiom_keyword a) names (f rest) (axiom_item a) rest names

  one_role : (r : Role) → (h : RoleStands r) → SaysAll (role_text names r ∷ []) h.f 4
  one_role r h = a_text (Says-deeper (role_text names r) h.f 1 4 (omega arith) h.says) no_texts

  two_roles : (r s : Role) → (h : RoleStands r) → (g : RoleStands s)
      → SaysAll (role_text names r ∷ role_text names s ∷ []) (λ rest. h.f (g.f rest)) 4
  two_roles r s h g = a_text (Says-deeper (role_text names r) h.f 1 4 (omega arith) h.says) (one_role s g)

  role_and_parts : (r : Role) (ps : List Part) → (h : RoleStands r) → (g : PartsStand ps)
      → SaysAll (role_text names r ∷ parts_text names ps ∷ []) (λ rest. h.f (g.f rest)) 4
  role_and_parts r ps h g = a_text (Says-deeper (role_text names r) h.f 1 4 (omega arith) h.says) (a_text g.says no_texts)

  operands_stand : (a : Axiom) → AxiomIn names a → OperandsStand a
  operands_stand _ (sub_class {b = b} {ps = ps} h g) =
      let first = basic_stands b h in
      let second = parts_stand ps g in
      record {
        f = λ rest. first.f (second.f rest);
        says = a_text (Says-deeper (basic_text names b) first.f 2 4 (omega arith) first.says) (a_text second.says no_texts);
        stands = λ rest. grammar_axioms.OperandsThen.sub_class (first.stands (second.f rest)) (second.stands rest);
      }
  operands_stand _ (equivalent_classes {bs = bs} h two) =
      let all = basics_stand bs h in
      record { f = all.f; says = all.says; stands = λ rest. grammar_axioms.OperandsThen.equivalent_classes (all.stands rest) two }
  operands_stand _ (disjoint_classes {bs = bs} h two) =
      let all = basics_stand bs h in
      record { f = all.f; says = all.says; stands = λ rest. grammar_axioms.OperandsThen.disjoint_classes (all.stands rest) two }
  operands_stand _ (sub_role {r = r} {s = s} h g) =
      let first = role_stands r h in
      let second = role_stands s g in
      record {
        f = λ rest. first.f (second.f rest);
        says = two_roles r s first second;
        stands = λ rest. grammar_axioms.OperandsThen.sub_role (first.stands (second.f rest)) (second.stands rest);
      }
  operands_stand _ (equivalent_roles {rs = rs} h two) =
      let all = roles_stand rs h in
      record { f = all.f; says = all.says; stands = λ rest. grammar_axioms.OperandsThen.equivalent_roles (all.stands rest) two }
  operands_stand _ (disjoint_roles {rs = rs} h two) =
      let all = roles_stand rs h in
      record { f = all.f; says = all.says; stands = λ rest. grammar_axioms.OperandsThen.disjoint_roles (all.stands rest) two }
  operands_stand _ (inverse_roles {r = r} {s = s} h g) =
      let first = role_stands r h in
      let second = role_stands s g in
      record {
        f = λ rest. first.f (second.f rest);
        says = two_roles r s first second;
        stands = λ rest. grammar_axioms.OperandsThen.inverse_roles (first.stands (second.f rest)) (second.stands rest);
      }
  operands_stand _ (domain {r = r} {ps = ps} h g) =
      let first = role_stands r h in
      let second = parts_stand ps g in
      record {
        f = λ rest. first.f (second.f rest);
        says = role_and_parts r ps first second;
        stands = λ rest. grammar_axioms.OperandsThen.domain (first.stands (second.f rest)) (second.stands rest);
      }
  operands_stand _ (range {r = r} {ps = ps} h g) =
      let first = role_stands r h in
      let second = parts_stand ps g in
      record {
        f = λ rest. first.f (second.f rest);
        says = role_and_parts r ps first second;
        stands = λ rest. grammar_axioms.OperandsThen.range (first.stands (second.f rest)) (second.stands rest);
      }
  operands_stand _ (symmetric {r = r} h) =
      let one = role_stands r h in
      record { f = one.f; says = one_role r one; stands = λ rest. grammar_axioms.OperandsThen.symmetric (one.stands rest) }
  operands_stand _ (asymmetric {r = r} h) =
      let one = role_stands r h in
      record { f = one.f; says = one_role r one; stands = λ rest. grammar_axioms.OperandsThen.asymmetric (one.stands rest) }
  operands_stand _ (irreflexive {r = r} h) =
      let one = role_stands r h in
      record { f = one.f; says = one_role r one; stands = λ rest. grammar_axioms.OperandsThen.irreflexive (one.stands rest) }

  -- an axiom, and nothing behind it
  pub record AxiomStands (a : Axiom) : Type 0 where
    pub symbols : List Symbol
    pub spells : Spells (axiom_text names a) symbols
    pub shallow : is_shallow 0 symbols ≡ true
    pub stands : AxiomThen predefined names symbols (axiom_item a) (ending ∷ []) names

  pub axiom_stands : (a : Axiom) → AxiomIn names a → AxiomStands a
  axiom_stands a h =
      let inner = operands_stand a h in
      let k = axiom_keyword a in
      let whole = Says-construct k (operand_texts names a) inner.f 4 (axiom_word a) inner.says in
      record {
        symbols = keyword k ∷ opening ∷ inner.f (closing ∷ ending ∷ []);
        spells =
            subst (λ l. Spells l (keyword k ∷ opening ∷ inner.f (closing ∷ ending ∷ []))) (append-nil (axiom_text names a))
            (whole.spells [] (ending ∷ []) spelling.EndsRun.at_end spelling.Spells.text_ends);
        shallow = whole.shallow 0 (ending ∷ []) (omega arith);
        stands = grammar_axioms.AxiomThen.axiom_of annotations.AnnotationsThen.none (inner.stands (closing ∷ ending ∷ []));
      }
