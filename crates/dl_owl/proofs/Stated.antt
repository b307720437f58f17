-- What the plain grammar reads has its names in the list of names after it, each with the text of an IRI.
use Rattle.std.proofs.Common.{◌≡◌, ℕ, Bool, true, false, Option, Some, None, List, [], ◌∷◌, ◌++◌, codes, slice_get, refl, sym, ap, ◌∙◌, subst}
use Rattle.std.specs.Option.{option_map}
use Rattle.std.specs.Str.{bytes_eq}
use Rattle.dl_lex.specs.declared.keyword.Keyword.{Keyword}
use Rattle.dl_names.specs.NameList.{Text, names_after, place_of, Extends}
use Rattle.dl_names.specs.Iris.{IsIri, is_free, may_be_class}
use Rattle.dl_names.proofs.NameListLemmas.{Extends-same, Extends-trans, Extends-names_after, has_name-names_after, slice_get-place_of, slice_get-Extends}
use Rattle.dl_terms.specs.declared.role.Role.{Role}
use Rattle.dl_terms.specs.declared.role.Basic.{Basic}
use Rattle.dl_terms.specs.declared.axiom.Part.{Part}
use Rattle.dl_owl.specs.declared.document.Document.{Document}
use Rattle.dl_owl.specs.Symbols.{Symbol, full_iri, short_iri}
use Rattle.dl_owl.specs.Prefixes.{Prefixes, predefined, prefix_of, local_of, declared_iri}
use Rattle.dl_owl.specs.NamesNext as names_next
use Rattle.dl_owl.specs.NamesNext.{IsNameOf}
use Rattle.dl_owl.specs.Annotations as annotations
use Rattle.dl_owl.specs.Annotations.{ValueThen, AnnotationsThen}
use Rattle.dl_owl.specs.Expressions as expressions
use Rattle.dl_owl.specs.Expressions.{RoleThen, SubThen, SupThen, SupsThen, RolesThen, SubsThen}
use Rattle.dl_owl.specs.declared.item.Item.{Item}
use Rattle.dl_owl.specs.declared.item.Item.TheVariants.{Axiom as axiom_item, Fact as fact_item, Class as class_item, Role as role_item, NoEffect as no_effect}
use Rattle.dl_owl.specs.Items.{with_item, empty_document}
use Rattle.dl_owl.specs.Axioms as axioms
use Rattle.dl_owl.specs.Axioms.{EntityThen, DifferentThen, OperandsThen, AxiomThen}
use Rattle.dl_owl.specs.Ontologies as ontologies
use Rattle.dl_owl.specs.Ontologies.{PrefixesThen, TitleThen, AxiomsThen, IsOntology, IsLoneAxiom}
use Rattle.dl_owl.proofs.IriTexts.{IsIri-append, ascii_iri}
use Rattle.dl_owl.proofs.Stating as stating
use Rattle.dl_owl.proofs.Stating.{IsStated, RoleIn, BasicIn, PartIn, PartsIn, AxiomIn, Each, no_items, an_item}

-- the IRI of a token, or the part of it behind the colon, has the text of one
abbrev pub IsTexted : Symbol → Type 0
IsTexted (full_iri text) = IsIri text
IsTexted (short_iri text) = IsIri (local_of text)
IsTexted _ = Unit {0}

abbrev pub AreTexted : List Symbol → Type 0
AreTexted ss = Each IsTexted ss

-- each prefix stands for the text of an IRI
abbrev pub ArePrefixesTexted : Prefixes → Type 0
ArePrefixesTexted p = Each (λ e. IsIri e.1) p

pub rest_texted : {s : Symbol} {ss : List Symbol} → AreTexted (s ∷ ss) → AreTexted ss
rest_texted (an_item t ts) = ts

pub first_texted : {s : Symbol} {ss : List Symbol} → AreTexted (s ∷ ss) → IsTexted s
first_texted (an_item t ts) = t

Each-append : {X : Type 0} (P : X → Type 0) (xs ys : List X) → Each P xs → Each P ys → Each P (xs ++ ys)
Each-append P _ ys no_items h = h
Each-append P _ ys (an_item {xs = xs} x all) h = an_item x (Each-append P xs ys all h)

PartsIn-append : (names : List Text) (ps qs : List Part) → PartsIn names ps → Each (PartIn names) qs → PartsIn names (ps ++ qs)
PartsIn-append names _ qs (stating.PartsIn.parts {ps = ps} p all) h = stating.PartsIn.parts p (Each-append (PartIn names) ps qs all h)

PartsIn-each : (names : List Text) (ps : List Part) → PartsIn names ps → Each (PartIn names) ps
PartsIn-each names _ (stating.PartsIn.parts p all) = an_item p all

-- what is found in front of a rest: the names grow, and whatever grows on from them has it
pub record Found {V : Type 0} (P : List Text → V → Type 0) (names after : List Text) (v : V) (rest : List Symbol) : Type 0 where
  pub grows : Extends names after
  pub texted : AreTexted rest
  pub has : (final : List Text) → Extends after final → P final v

module _ (p : Prefixes) (good : ArePrefixesTexted p) where
  declared_text : (name iri : Text) → declared_iri p name ≡ Some iri → IsIri iri
  declared_text name = by p good
    where
      by : (q : Prefixes) → ArePrefixesTexted q → (iri : Text) → declared_iri q name ≡ Some iri → IsIri iri
      by [] all iri is = absurd (cc)
      by (e ∷ q) (an_item t ts) iri is = at (bytes_eq name e.0) refl (by q ts iri)
        where
          at : (b : Bool) → bytes_eq name e.0 ≡ b → (declared_iri q name ≡ Some iri → IsIri iri) → IsIri iri
          at true found later = let same : e.1 ≡ iri = (let h = rw found at is in cc) in subst IsIri same t
          at false other later = later (rw other at is)

  iri_texted : (s : Symbol) (text : Text) → IsTexted s → names_next.IsIri p s text → IsIri text
  iri_texted (full_iri t) text texted is = let same : t ≡ text = cc in subst IsIri same texted
  iri_texted (short_iri t) text texted is = by (declared_iri p (prefix_of t)) refl is
    where
      by : (found : Option Text) → declared_iri p (prefix_of t) ≡ found → option_map (λ iri. iri ++ local_of t) found ≡ Some text → IsIri text
      by None at h = absurd (cc)
      by (Some iri) at h =
          let same : iri ++ local_of t ≡ text = cc in
          subst IsIri same (IsIri-append iri (local_of t) (declared_text (prefix_of t) iri at) texted)
  iri_texted s text texted is = absurd (cc)

  name_found : (allowed : Text → Bool) (names after : List Text) (s : Symbol) (n : ℕ) (rest : List Symbol) → AreTexted (s ∷ rest)
      → IsNameOf p allowed names s n after → Found (λ final m. IsStated final allowed m) names after n rest
  name_found allowed names after s n rest (an_item t ts) h = record {
    grows = subst (λ l. Extends names l) (sym h.named) (Extends-names_after names h.text);
    texted = ts;
    has = λ final grows.
        let there = slice_get-place_of (names_after names h.text) h.text (has_name-names_after names h.text) in
        let at : slice_get after n ≡ Some h.text = subst (λ l. slice_get l n ≡ Some h.text) (sym h.named) (subst (λ m. slice_get (names_after names h.text) m ≡ Some h.text) (sym (h.at ∙ ap (λ l. place_of l h.text) h.named)) there) in
        record {
          text = h.text;
          at = slice_get-Extends after final grows n h.text at;
          is_allowed = h.is_allowed;
          iri = iri_texted s h.text t h.iri;
        };
  }

  role_found : (names after : List Text) (ss : List Symbol) (r : Role) (rest : List Symbol) → AreTexted ss → RoleThen p names ss r rest after
      → Found RoleIn names after r rest
  role_found names after _ _ rest ts (expressions.RoleThen.plain {s = s} {n = n} h) =
      let name = name_found is_free names after s n rest ts h in
      record { grows = name.grows; texted = name.texted; has = λ final grows. stating.RoleIn.plain (name.has final grows) }
  role_found names after _ _ rest texted (expressions.RoleThen.inverse {s = s} {n = n} h) =
      let name = name_found is_free names after s n _ (rest_texted (rest_texted texted)) h in
      record {
        grows = name.grows;
        texted = rest_texted name.texted;
        has = λ final grows. stating.RoleIn.inverse (name.has final grows);
      }

  sub_found : (names after : List Text) (ss : List Symbol) (b : Basic) (rest : List Symbol) → AreTexted ss → SubThen p names ss b rest after
      → Found BasicIn names after b rest
  sub_found names after _ _ rest ts (expressions.SubThen.class {s = s} {n = n} h) =
      let name = name_found may_be_class names after s n rest ts h in
      record { grows = name.grows; texted = name.texted; has = λ final grows. stating.BasicIn.class (name.has final grows) }
  sub_found names after _ _ rest texted (expressions.SubThen.some {inner = inner} {r = r} h is) =
      let role = role_found names after inner r _ (rest_texted (rest_texted texted)) h in
      record {
        grows = role.grows;
        texted = rest_texted (rest_texted role.texted);
        has = λ final grows. stating.BasicIn.some (role.has final grows);
      }

  mutual
    sup_found : (names after : List Text) (ss : List Symbol) (ps : List Part) (rest : List Symbol) → AreTexted ss → SupThen p names ss ps rest after
        → Found PartsIn names after ps rest
    sup_found names _ _ _ rest ts (expressions.SupThen.thing is) =
        record { grows = Extends-same names; texted = rest_texted ts; has = λ final grows. stating.PartsIn.parts stating.PartIn.thing no_items }
    sup_found names after _ _ rest ts (expressions.SupThen.class {s = s} {n = n} h) =
        let name = name_found may_be_class names after s n rest ts h in
        record {
          grows = name.grows;
          texted = name.texted;
          has = λ final grows. stating.PartsIn.parts (stating.PartIn.class (name.has final grows)) no_items;
        }
    sup_found names after _ _ rest texted (expressions.SupThen.any {inner = inner} {r = r} h is) =
        let role = role_found names after inner r _ (rest_texted (rest_texted texted)) h in
        record {
          grows = role.grows;
          texted = rest_texted (rest_texted role.texted);
          has = λ final grows. stating.PartsIn.parts (stating.PartIn.any (role.has final grows)) no_items;
        }
    sup_found names after _ _ rest texted (expressions.SupThen.fill {between = between} {inner = inner} {r = r} {s = s} {n = n} h g) =
        let role = role_found names between inner r _ (rest_texted (rest_texted texted)) h in
        let name = name_found may_be_class between after s n _ role.texted g in
        record {
          grows = Extends-trans names between after role.grows name.grows;
          texted = rest_texted name.texted;
          has = λ final grows.
              stating.PartsIn.parts
              (stating.PartIn.fill (role.has final (Extends-trans between after final name.grows grows)) (name.has final grows)) no_items;
        }
    sup_found names after _ _ rest texted (expressions.SupThen.complement {inner = inner} {b = b} h) =
        let sub = sub_found names after inner b _ (rest_texted (rest_texted texted)) h in
        record {
          grows = sub.grows;
          texted = rest_texted sub.texted;
          has = λ final grows. stating.PartsIn.parts (stating.PartIn.complement (sub.has final grows)) no_items;
        }
    sup_found names after _ _ rest texted (expressions.SupThen.intersection {one = one} {two = two} {first = first} {second = second} {others = others} {ps = ps} {qs = qs} {rs = rs} h g all) =
        let front = sup_found names one first ps second (rest_texted (rest_texted texted)) h in
        let next = sup_found one two second qs others front.texted g in
        let last = sups_found two after others rs _ next.texted all in
        record {
          grows = Extends-trans names one after front.grows (Extends-trans one two after next.grows last.grows);
          texted = rest_texted last.texted;
          has = λ final grows.
              let from_two = Extends-trans two after final last.grows grows in
              let from_one = Extends-trans one two final next.grows from_two in
              PartsIn-append final ps (qs ++ rs) (front.has final from_one)
              (Each-append (PartIn final) qs rs (PartsIn-each final qs (next.has final from_two)) (last.has final grows));
        }

    sups_found : (names after : List Text) (ss : List Symbol) (ps : List Part) (rest : List Symbol) → AreTexted ss → SupsThen p names ss ps rest after
        → Found (λ final. Each (PartIn final)) names after ps rest
    sups_found names _ ss _ _ ts expressions.SupsThen.none =
        record { grows = Extends-same names; texted = ts; has = λ final grows. no_items }
    sups_found names after _ _ rest ts (expressions.SupsThen.more {one = one} {first = first} {others = others} {ps = ps} {qs = qs} h all) =
        let front = sup_found names one first ps others ts h in
        let last = sups_found one after others qs rest front.texted all in
        record {
          grows = Extends-trans names one after front.grows last.grows;
          texted = last.texted;
          has = λ final grows.
              Each-append (PartIn final) ps qs
              (PartsIn-each final ps (front.has final (Extends-trans one after final last.grows grows))) (last.has final grows);
        }

  roles_found : (names after : List Text) (ss : List Symbol) (rs : List Role) (rest : List Symbol) → AreTexted ss → RolesThen p names ss rs rest after
      → Found (λ final. Each (RoleIn final)) names after rs rest
  roles_found names _ ss _ _ ts expressions.RolesThen.none =
      record { grows = Extends-same names; texted = ts; has = λ final grows. no_items }
  roles_found names after _ _ rest ts (expressions.RolesThen.more {one = one} {first = first} {others = others} {r = r} {rs = rs} h all) =
      let front = role_found names one first r others ts h in
      let last = roles_found one after others rs rest front.texted all in
      record {
        grows = Extends-trans names one after front.grows last.grows;
        texted = last.texted;
        has = λ final grows. an_item (front.has final (Extends-trans one after final last.grows grows)) (last.has final grows);
      }

  subs_found : (names after : List Text) (ss : List Symbol) (bs : List Basic) (rest : List Symbol) → AreTexted ss → SubsThen p names ss bs rest after
      → Found (λ final. Each (BasicIn final)) names after bs rest
  subs_found names _ ss _ _ ts expressions.SubsThen.none =
      record { grows = Extends-same names; texted = ts; has = λ final grows. no_items }
  subs_found names after _ _ rest ts (expressions.SubsThen.more {one = one} {first = first} {others = others} {b = b} {bs = bs} h all) =
      let front = sub_found names one first b others ts h in
      let last = subs_found one after others bs rest front.texted all in
      record {
        grows = Extends-trans names one after front.grows last.grows;
        texted = last.texted;
        has = λ final grows. an_item (front.has final (Extends-trans one after final last.grows grows)) (last.has final grows);
      }

  -- ---- what has no names of its own

  value_passed : (ss rest : List Symbol) → AreTexted ss → ValueThen p ss rest → AreTexted rest
  value_passed _ rest texted (annotations.ValueThen.iri is) = (rest_texted texted)
  value_passed _ rest texted annotations.ValueThen.blank = (rest_texted texted)
  value_passed _ rest texted annotations.ValueThen.plain = (rest_texted texted)
  value_passed _ rest texted annotations.ValueThen.in_language = (rest_texted (rest_texted texted))
  value_passed _ rest texted (annotations.ValueThen.of_datatype is) = (rest_texted (rest_texted (rest_texted texted)))

  annotations_passed : (ss rest : List Symbol) → AreTexted ss → AnnotationsThen p ss rest → AreTexted rest
  annotations_passed ss _ ts annotations.AnnotationsThen.none = ts
  annotations_passed _ rest texted (annotations.AnnotationsThen.one {inner = inner} {«value» = v} {more = others} {s = s} h is value all) =
      let inside = annotations_passed inner (s ∷ v) (rest_texted (rest_texted texted)) h in
      let behind = value_passed v _ (rest_texted inside) value in
      annotations_passed others rest (rest_texted behind) all

  different_passed : (before : List Text) (ss : List Symbol) (count : ℕ) (rest : List Symbol) → AreTexted ss → DifferentThen p before ss count rest
      → AreTexted rest
  different_passed before ss _ _ ts axioms.DifferentThen.none = ts
  different_passed before _ _ rest texted (axioms.DifferentThen.more {text = text} {others = others} {count = count} is free new all) =
      different_passed (text ∷ before) others count rest (rest_texted texted) all

  -- ---- axioms

  abbrev pub ItemIn : List Text → Item → Type 0
  ItemIn final (axiom_item a) = AxiomIn final a
  ItemIn final _ = Unit {0}

  entity_found : (names after : List Text) (ss : List Symbol) (item : Item) (rest : List Symbol) → AreTexted ss → EntityThen p names ss item rest after
      → Found ItemIn names after item rest
  entity_found names after _ _ rest texted (axioms.EntityThen.class {s = s} {n = n} h) =
      let name = name_found may_be_class names after s n _ (rest_texted (rest_texted texted)) h in
      record { grows = name.grows; texted = rest_texted name.texted; has = λ final grows. tt }
  entity_found names _ _ _ rest texted (axioms.EntityThen.thing is) =
      record { grows = Extends-same names; texted = (rest_texted (rest_texted (rest_texted (rest_texted texted)))); has = λ final grows. tt }
  entity_found names after _ _ rest texted (axioms.EntityThen.property {s = s} {n = n} h) =
      let name = name_found is_free names after s n _ (rest_texted (rest_texted texted)) h in
      record { grows = name.grows; texted = rest_texted name.texted; has = λ final grows. tt }
  entity_found names _ _ _ rest texted (axioms.EntityThen.other kind is) =
      record { grows = Extends-same names; texted = (rest_texted (rest_texted (rest_texted (rest_texted texted)))); has = λ final grows. tt }

  operands_found : (k : Keyword) (names after : List Text) (ss : List Symbol) (item : Item) (rest : List Symbol) → AreTexted ss
      → OperandsThen p k names ss item rest after → Found ItemIn names after item rest
  operands_found _ names after _ _ rest ts (axioms.OperandsThen.sub_class {one = one} {first = first} {second = second} {b = b} {ps = ps} h g) =
      let front = sub_found names one first b second ts h in
      let last = sup_found one after second ps rest front.texted g in
      record {
        grows = Extends-trans names one after front.grows last.grows;
        texted = last.texted;
        has = λ final grows.
            stating.AxiomIn.sub_class (front.has final (Extends-trans one after final last.grows grows)) (last.has final grows);
      }
  operands_found _ names after _ _ rest ts (axioms.OperandsThen.equivalent_classes {first = first} {bs = bs} h two) =
      let all = subs_found names after first bs rest ts h in
      record { grows = all.grows; texted = all.texted; has = λ final grows. stating.AxiomIn.equivalent_classes (all.has final grows) two }
  operands_found _ names after _ _ rest ts (axioms.OperandsThen.disjoint_classes {first = first} {bs = bs} h two) =
      let all = subs_found names after first bs rest ts h in
      record { grows = all.grows; texted = all.texted; has = λ final grows. stating.AxiomIn.disjoint_classes (all.has final grows) two }
  operands_found _ names after _ _ rest ts (axioms.OperandsThen.sub_role {one = one} {first = first} {second = second} {r = r} {s = s} h g) =
      let front = role_found names one first r second ts h in
      let last = role_found one after second s rest front.texted g in
      record {
        grows = Extends-trans names one after front.grows last.grows;
        texted = last.texted;
        has = λ final grows.
            stating.AxiomIn.sub_role (front.has final (Extends-trans one after final last.grows grows)) (last.has final grows);
      }
  operands_found _ names after _ _ rest ts (axioms.OperandsThen.sub_top {first = first} {r = r} {top = top} h is) =
      let role = role_found names after first r (top ∷ rest) ts h in
      record { grows = role.grows; texted = rest_texted role.texted; has = λ final grows. tt }
  operands_found _ names after _ _ rest ts (axioms.OperandsThen.equivalent_roles {first = first} {rs = rs} h two) =
      let all = roles_found names after first rs rest ts h in
      record { grows = all.grows; texted = all.texted; has = λ final grows. stating.AxiomIn.equivalent_roles (all.has final grows) two }
  operands_found _ names after _ _ rest ts (axioms.OperandsThen.disjoint_roles {first = first} {rs = rs} h two) =
      let all = roles_found names after first rs rest ts h in
      record { grows = all.grows; texted = all.texted; has = λ final grows. stating.AxiomIn.disjoint_roles (all.has final grows) two }
  operands_found _ names after _ _ rest ts (axioms.OperandsThen.inverse_roles {one = one} {first = first} {second = second} {r = r} {s = s} h g) =
      let front = role_found names one first r second ts h in
      let last = role_found one after second s rest front.texted g in
      record {
        grows = Extends-trans names one after front.grows last.grows;
        texted = last.texted;
        has = λ final grows.
            stating.AxiomIn.inverse_roles (front.has final (Extends-trans one after final last.grows grows)) (last.has final grows);
      }
  operands_found _ names after _ _ rest ts (axioms.OperandsThen.domain {one = one} {first = first} {second = second} {r = r} {ps = ps} h g) =
      let front = role_found names one first r second ts h in
      let last = sup_found one after second ps rest front.texted g in
      record {
        grows = Extends-trans names one after front.grows last.grows;
        texted = last.texted;
        has = λ final grows.
            stating.AxiomIn.domain (front.has final (Extends-trans one after final last.grows grows)) (last.has final grows);
      }
  operands_found _ names after _ _ rest ts (axioms.OperandsThen.range {one = one} {first = first} {second = second} {r = r} {ps = ps} h g) =
      let front = role_found names one first r second ts h in
      let last = sup_found one after second ps rest front.texted g in
      record {
        grows = Extends-trans names one after front.grows last.grows;
        texted = last.texted;
        has = λ final grows.
            stating.AxiomIn.range (front.has final (Extends-trans one after final last.grows grows)) (last.has final grows);
      }
  operands_found _ names after _ _ rest ts (axioms.OperandsThen.symmetric {first = first} {r = r} h) =
      let role = role_found names after first r rest ts h in
      record { grows = role.grows; texted = role.texted; has = λ final grows. stating.AxiomIn.symmetric (role.has final grows) }
  operands_found _ names after _ _ rest ts (axioms.OperandsThen.asymmetric {first = first} {r = r} h) =
      let role = role_found names after first r rest ts h in
      record { grows = role.grows; texted = role.texted; has = λ final grows. stating.AxiomIn.asymmetric (role.has final grows) }
  operands_found _ names after _ _ rest ts (axioms.OperandsThen.irreflexive {first = first} {r = r} h) =
      let role = role_found names after first r rest ts h in
      record { grows = role.grows; texted = role.texted; has = λ final grows. stating.AxiomIn.irreflexive (role.has final grows) }
  operands_found _ names after _ _ rest ts (axioms.OperandsThen.is_in {one = one} {s = s} {t = t} {c = c} {a = a} h g) =
      let class = name_found may_be_class names one s c (t ∷ rest) ts h in
      let who = name_found is_free one after t a rest class.texted g in
      record { grows = Extends-trans names one after class.grows who.grows; texted = who.texted; has = λ final grows. tt }
  operands_found _ names _ _ _ rest texted (axioms.OperandsThen.in_thing is who free) =
      record { grows = Extends-same names; texted = (rest_texted (rest_texted texted)); has = λ final grows. tt }
  operands_found _ names after _ _ rest ts (axioms.OperandsThen.joined {one = one} {two = two} {first = first} {r = r} {s = s} {t = t} {a = a} {b = b} h g f) =
      let role = role_found names one first r (s ∷ t ∷ rest) ts h in
      let from = name_found is_free one two s a (t ∷ rest) role.texted g in
      let to = name_found is_free two after t b rest from.texted f in
      record {
        grows = Extends-trans names one after role.grows (Extends-trans one two after from.grows to.grows);
        texted = to.texted;
        has = λ final grows. tt;
      }
  operands_found _ names _ _ _ rest ts (axioms.OperandsThen.different {first = first} {count = count} h two) =
      record { grows = Extends-same names; texted = different_passed [] first count rest ts h; has = λ final grows. tt }
  operands_found _ names after _ item rest ts (axioms.OperandsThen.declaration {first = first} h) =
      entity_found names after first item rest ts h
  operands_found _ names _ _ _ rest texted (axioms.OperandsThen.annotation_of_iri {«value» = v} is also value) =
      record { grows = Extends-same names; texted = value_passed v rest (rest_texted (rest_texted texted)) value; has = λ final grows. tt }
  operands_found _ names _ _ _ rest texted (axioms.OperandsThen.annotation_of_node {«value» = v} is value) =
      record { grows = Extends-same names; texted = value_passed v rest (rest_texted (rest_texted texted)) value; has = λ final grows. tt }
  operands_found _ names _ _ _ rest texted (axioms.OperandsThen.annotation_axiom kind is also) =
      record { grows = Extends-same names; texted = (rest_texted (rest_texted texted)); has = λ final grows. tt }

  axiom_found : (names after : List Text) (ss : List Symbol) (item : Item) (rest : List Symbol) → AreTexted ss → AxiomThen p names ss item rest after
      → Found ItemIn names after item rest
  axiom_found names after _ item rest texted (axioms.AxiomThen.axiom_of {k = k} {inner = inner} {operands = operands} h g) =
      let found = operands_found k names after operands item _ (annotations_passed inner operands (rest_texted (rest_texted texted)) h) g in
      record { grows = found.grows; texted = rest_texted found.texted; has = found.has }

  with_item_in : (final : List Text) (d : Document) (item : Item) → Each (AxiomIn final) d.axioms → ItemIn final item
      → Each (AxiomIn final) (with_item d item).axioms
  with_item_in final d (axiom_item a) all h = Each-append (AxiomIn final) d.axioms (a ∷ []) all (an_item h no_items)
  with_item_in final d (fact_item f) all h = all
  with_item_in final d (class_item n) all h = all
  with_item_in final d (role_item n) all h = all
  with_item_in final d no_effect all h = all

  axioms_found : (d : Document) (names : List Text) (ss : List Symbol) (whole : Document) (rest : List Symbol) (after : List Text) → AreTexted ss
      → AxiomsThen p d names ss whole rest after
      → Extends names after × ((final : List Text) → Extends after final → Each (AxiomIn final) d.axioms → Each (AxiomIn final) whole.axioms)
  axioms_found d names _ _ _ _ ts ontologies.AxiomsThen.none = (Extends-same names, λ final grows all. all)
  axioms_found d names _ whole rest after ts (ontologies.AxiomsThen.more {one = one} {first = first} {others = others} {item = item} h all) =
      let front = axiom_found names one first item others ts h in
      let last = axioms_found (with_item d item) one others whole rest after front.texted all in (
        Extends-trans names one after front.grows last.0,
        λ final grows before.
            last.1 final grows (with_item_in final d item before (front.has final (Extends-trans one after final last.0 grows))),
      )

  title_passed : (ss rest : List Symbol) → AreTexted ss → TitleThen p ss rest → AreTexted rest
  title_passed ss _ ts ontologies.TitleThen.none = ts
  title_passed _ rest texted (ontologies.TitleThen.iri is) = (rest_texted texted)
  title_passed _ rest texted (ontologies.TitleThen.version is also) = (rest_texted (rest_texted texted))

prefixes_found : (p : Prefixes) (ss : List Symbol) (q : Prefixes) (rest : List Symbol) → ArePrefixesTexted p → AreTexted ss → PrefixesThen p ss q rest
    → ArePrefixesTexted q × AreTexted rest
prefixes_found p ss _ _ good ts ontologies.PrefixesThen.none = (good, ts)
prefixes_found p _ q rest good texted (ontologies.PrefixesThen.new {name = name} {iri = iri} {more = others} local new all) =
    prefixes_found (p ++ (prefix_of name, iri) ∷ []) others q rest
    (Each-append (λ e. IsIri e.1) p ((prefix_of name, iri) ∷ []) good (an_item (first_texted (rest_texted (rest_texted (rest_texted (rest_texted texted))))) no_items))
    (rest_texted (rest_texted (rest_texted (rest_texted (rest_texted (rest_texted texted)))))) all
prefixes_found p _ q rest good texted (ontologies.PrefixesThen.again {more = others} local old all) =
    prefixes_found p others q rest good (rest_texted (rest_texted (rest_texted (rest_texted (rest_texted (rest_texted texted)))))) all

predefined_texted : ArePrefixesTexted predefined
predefined_texted =
    an_item (ascii_iri (codes "http://www.w3.org/2002/07/owl#") refl)
    (an_item (ascii_iri (codes "http://www.w3.org/1999/02/22-rdf-syntax-ns#") refl)
    (an_item (ascii_iri (codes "http://www.w3.org/2000/01/rdf-schema#") refl)
    (an_item (ascii_iri (codes "http://www.w3.org/2001/XMLSchema#") refl) no_items)))

pub ontology_stated : (names : List Text) (ss : List Symbol) (document : Document) (after : List Text) → AreTexted ss → IsOntology names ss document after
    → Each (AxiomIn after) document.axioms
ontology_stated names ss document after ts h =
    let declared = prefixes_found predefined ss h.prefixes _ predefined_texted ts h.declared in
    let title = title_passed h.prefixes declared.0 h.title h.annotations (rest_texted (rest_texted declared.1)) h.titled in
    let start = annotations_passed h.prefixes declared.0 h.annotations h.axioms title h.annotated in
    (axioms_found h.prefixes declared.0 empty_document names h.axioms document _ after start h.read).1 after (Extends-same after) no_items

pub lone_axiom_stated : (names : List Text) (ss : List Symbol) (document : Document) (after : List Text) → AreTexted ss → IsLoneAxiom names ss document after
    → Each (AxiomIn after) document.axioms
lone_axiom_stated names ss document after ts h =
    let found = axiom_found predefined predefined_texted names after ss h.item _ ts h.read in
    subst (λ d. Each (AxiomIn after) d.axioms) (sym h.is)
    (with_item_in predefined predefined_texted after empty_document h.item no_items (found.has after (Extends-same after)))
