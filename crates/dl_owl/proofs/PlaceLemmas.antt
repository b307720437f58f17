-- The places that a text of the grammar names are those of names after it, and the names only grow.
use Rattle.std.proofs.Common.{◌≡◌, ℕ, ◌<◌, ◌≤◌, Bool, true, false, List, [], ◌∷◌, ◌++◌, length, All, sym, ap, ◌∙◌, subst, arith, if◌then◌else◌}
use Rattle.std.specs.List.{flat_map}
use Rattle.std.proofs.lemmas.Grind.{flat_map-append}
use Rattle.std.proofs.lemmas.List.Elements.{All-nil, All-cons, All-head, All-tail, All-append, All-weaker}
use Rattle.dl_lex.specs.declared.keyword.Keyword.{Keyword}
use Rattle.dl_names.specs.NameList.{Text, names_after, place_of, Extends}
use Rattle.dl_names.proofs.NameListLemmas.{Extends-same, Extends-trans, length-Extends, Extends-names_after, has_name-names_after, place_of-lt}
use Rattle.dl_terms.specs.declared.role.Role.{Role}
use Rattle.dl_terms.specs.declared.role.Basic.{Basic}
use Rattle.dl_terms.specs.declared.axiom.Part.{Part}
use Rattle.dl_terms.specs.declared.axiom.Fact.TheVariants as facts
use Rattle.dl_terms.specs.Occurring.{role_names, basic_names, part_names, axiom_names, fact_names}
use Rattle.dl_owl.specs.declared.document.Document.{Document}
use Rattle.dl_owl.specs.declared.item.Item.{Item}
use Rattle.dl_owl.specs.declared.item.Item.TheVariants as items
use Rattle.dl_owl.specs.Symbols.{Symbol, closing, ending, Placed, symbols_of}
use Rattle.dl_owl.specs.Prefixes.{Prefixes, predefined}
use Rattle.dl_owl.specs.NamesNext.{IsNameOf}
use Rattle.dl_owl.specs.Expressions as expressions
use Rattle.dl_owl.specs.Expressions.{RoleThen, SubThen, SupThen, SupsThen, RolesThen, SubsThen}
use Rattle.dl_owl.specs.Items.{empty_document, with_item}
use Rattle.dl_text.specs.AxiomText.{property_of}
use Rattle.dl_owl.specs.Axioms as axioms
use Rattle.dl_owl.specs.Axioms.{EntityThen, OperandsThen, AxiomThen}
use Rattle.dl_owl.specs.Ontologies as ontologies
use Rattle.dl_owl.specs.Ontologies.{AxiomsThen}
use Rattle.dl_owl.specs.Expected.{prologue, lone_axiom}
use Rattle.dl_owl.specs.Reading.{gives, outcome, start}
use Rattle.dl_owl.proofs.Exact.{sound}

-- the names grow, and these places are among them then
pub record Placing (names after : List Text) (places : List ℕ) : Type 0 where
  pub grows : Extends names after
  pub below : All (λ place. place < length after) places

below_later : (one after : List Text) (places : List ℕ) → Extends one after → All (λ place. place < length one) places
    → All (λ place. place < length after) places
below_later one after places grows below =
    All-weaker (λ place. place < length one) (λ place. place < length after)
    (λ place h. let more = length-Extends one after grows in omega arith) places below

pub nothing : (names : List Text) → Placing names names []
nothing names = record { grows = Extends-same names; below = All-nil (λ place. place < length names) }

pub joined : (names one after : List Text) (xs ys : List ℕ) → Placing names one xs → Placing one after ys
    → Placing names after (xs ++ ys)
joined names one after xs ys first second = record {
  grows = Extends-trans names one after first.grows second.grows;
  below = All-append (λ place. place < length after) xs ys (below_later one after xs second.grows first.below)
      second.below;
}

-- what one item names is what the list of it does
one_of : (names after : List Text) (places : List ℕ) → Placing names after places → Placing names after (places ++ [])
one_of names after places h = joined names after after places [] h (nothing after)

-- two places the other way round
swapped : (P : ℕ → Type 0) (a b : ℕ) → All P (a ∷ b ∷ []) → All P (b ∷ a ∷ [])
swapped P a b all =
    All-cons P b (a ∷ []) (All-head P b [] (All-tail P a (b ∷ []) all)) (All-cons P a [] (All-head P a (b ∷ []) all)
    (All-nil P))

-- the places that an item names
abbrev pub item_names : Item → List ℕ
item_names (items.Axiom a) = axiom_names a
item_names (items.Fact f) = fact_names f
item_names (items.Class n) = n ∷ []
item_names (items.Role n) = n ∷ []
item_names items.NoEffect = []

module _ (p : Prefixes) where
  pub name_placed : (allowed : Text → Bool) (names : List Text) (s : Symbol) (n : ℕ) (after : List Text)
      → IsNameOf p allowed names s n after → Placing names after (n ∷ [])
  name_placed allowed names s n after h =
      let lt : place_of after h.text < length after =
      subst (λ l. place_of l h.text < length l) (sym h.named)
      (place_of-lt (names_after names h.text) h.text (has_name-names_after names h.text)) in
      let within : n < length after = subst (λ k. k < length after) (sym h.at) lt in
      record {
        grows = subst (Extends names) (sym h.named) (Extends-names_after names h.text);
        below = All-cons (λ place. place < length after) n [] within (All-nil (λ place. place < length after));
      }

  role_placed : (names : List Text) (ss : List Symbol) (r : Role) (rest : List Symbol) (after : List Text)
      → RoleThen p names ss r rest after → Placing names after (role_names r)
  role_placed names ss r rest after (expressions.RoleThen.plain {s = s} {n = n} h) = name_placed _ names s n after h
  role_placed names ss r rest after (expressions.RoleThen.inverse {s = s} {n = n} h) = name_placed _ names s n after h

  property_placed : (names : List Text) (ss : List Symbol) (r : Role) (rest : List Symbol) (after : List Text)
      → RoleThen p names ss r rest after → Placing names after (property_of r ∷ [])
  property_placed names ss r rest after (expressions.RoleThen.plain {s = s} {n = n} h) = name_placed _ names s n after h
  property_placed names ss r rest after (expressions.RoleThen.inverse {s = s} {n = n} h) = name_placed _ names s n
      after h

  sub_placed : (names : List Text) (ss : List Symbol) (b : Basic) (rest : List Symbol) (after : List Text)
      → SubThen p names ss b rest after → Placing names after (basic_names b)
  sub_placed names ss b rest after (expressions.SubThen.class {s = s} {n = n} h) = name_placed _ names s n after h
  sub_placed names ss b rest after (expressions.SubThen.some {inner = inner} {r = r} {thing = thing} role is) =
      role_placed names inner r _ after role

  mutual
    sup_placed : (names : List Text) (ss : List Symbol) (ps : List Part) (rest : List Symbol) (after : List Text)
        → SupThen p names ss ps rest after → Placing names after (flat_map part_names ps)
    sup_placed names ss ps rest after (expressions.SupThen.thing is) = nothing names
    sup_placed names ss ps rest after (expressions.SupThen.class {s = s} {n = n} h) = name_placed _ names s n after h
    sup_placed names ss ps rest after (expressions.SupThen.any {inner = inner} {r = r} role is) =
        one_of names after (role_names r) (role_placed names inner r _ after role)
    sup_placed names ss ps rest after
        (expressions.SupThen.fill {between = between} {inner = inner} {r = r} {s = s} {n = n} role h) =
        one_of names after (role_names r ++ n ∷ [])
        (joined names between after (role_names r) (n ∷ []) (role_placed names inner r _ between role)
        (name_placed _ between s n after h))
    sup_placed names ss ps rest after (expressions.SupThen.complement {inner = inner} {b = b} sub) =
        one_of names after (basic_names b) (sub_placed names inner b _ after sub)
    sup_placed names ss ps rest after
        (expressions.SupThen.intersection {one = one} {two = two} {first = first} {second = second} {others = others}
        {ps = xs}
        {qs = ys} {rs = zs} h g f) =
        let x = sup_placed names first xs second one h in
        let y = sup_placed one second ys others two g in
        let z = sups_placed two others zs _ after f in
        subst (Placing names after)
        (sym (flat_map-append part_names xs (ys ++ zs) ∙ ap (λ l. flat_map part_names xs ++ l) (flat_map-append
        part_names ys zs)))
        (joined names one after (flat_map part_names xs) (flat_map part_names ys ++ flat_map part_names zs) x
        (joined one two after (flat_map part_names ys) (flat_map part_names zs) y z))

    sups_placed : (names : List Text) (ss : List Symbol) (ps : List Part) (rest : List Symbol) (after : List Text)
        → SupsThen p names ss ps rest after → Placing names after (flat_map part_names ps)
    sups_placed names ss ps rest after expressions.SupsThen.none = nothing names
    sups_placed names ss ps rest after
        (expressions.SupsThen.more {one = one} {first = first} {others = others} {ps = xs} {qs = ys} h g) =
        let x = sup_placed names first xs others one h in
        let y = sups_placed one others ys rest after g in
        subst (Placing names after) (sym (flat_map-append part_names xs ys))
        (joined names one after (flat_map part_names xs) (flat_map part_names ys) x y)

  roles_placed : (names : List Text) (ss : List Symbol) (rs : List Role) (rest : List Symbol) (after : List Text)
      → RolesThen p names ss rs rest after → Placing names after (flat_map role_names rs)
  roles_placed names ss rs rest after expressions.RolesThen.none = nothing names
  roles_placed names ss rs rest after
      (expressions.RolesThen.more {one = one} {first = first} {others = others} {r = r} {rs = more} h g) =
      joined names one after (role_names r) (flat_map role_names more) (role_placed names first r others one h)
      (roles_placed one others more rest after g)

  subs_placed : (names : List Text) (ss : List Symbol) (bs : List Basic) (rest : List Symbol) (after : List Text)
      → SubsThen p names ss bs rest after → Placing names after (flat_map basic_names bs)
  subs_placed names ss bs rest after expressions.SubsThen.none = nothing names
  subs_placed names ss bs rest after
      (expressions.SubsThen.more {one = one} {first = first} {others = others} {b = b} {bs = more} h g) =
      joined names one after (basic_names b) (flat_map basic_names more) (sub_placed names first b others one h)
      (subs_placed one others more rest after g)

  entity_placed : (names : List Text) (ss : List Symbol) (i : Item) (rest : List Symbol) (after : List Text)
      → EntityThen p names ss i rest after → Placing names after (item_names i)
  entity_placed names ss i rest after (axioms.EntityThen.class {s = s} {n = n} h) = name_placed _ names s n after h
  entity_placed names ss i rest after (axioms.EntityThen.thing is) = nothing names
  entity_placed names ss i rest after (axioms.EntityThen.property {s = s} {n = n} h) = name_placed _ names s n after h
  entity_placed names ss i rest after (axioms.EntityThen.other is iri) = nothing names

  operands_placed : (k : Keyword) (names : List Text) (ss : List Symbol) (i : Item) (rest : List Symbol) (after : List
      Text)
      → OperandsThen p k names ss i rest after → Placing names after (item_names i)
  operands_placed k names ss i rest after
      (axioms.OperandsThen.sub_class {one = one} {first = first} {second = second} {b = b} {ps = ps} h g) =
      joined names one after (basic_names b) (flat_map part_names ps) (sub_placed names first b second one h)
      (sup_placed one second ps rest after g)
  operands_placed k names ss i rest after (axioms.OperandsThen.equivalent_classes {bs = bs} h two) =
      subs_placed names ss bs rest after h
  operands_placed k names ss i rest after (axioms.OperandsThen.disjoint_classes {bs = bs} h two) =
      subs_placed names ss bs rest after h
  operands_placed k names ss i rest after
      (axioms.OperandsThen.sub_role {one = one} {first = first} {second = second} {r = r} {s = s} h g) =
      joined names one after (role_names r) (role_names s) (role_placed names first r second one h)
      (role_placed one second s rest after g)
  operands_placed k names ss i rest after (axioms.OperandsThen.sub_top {r = r} h is) =
      property_placed names ss r _ after h
  operands_placed k names ss i rest after (axioms.OperandsThen.equivalent_roles {rs = rs} h two) =
      roles_placed names ss rs rest after h
  operands_placed k names ss i rest after (axioms.OperandsThen.disjoint_roles {rs = rs} h two) =
      roles_placed names ss rs rest after h
  operands_placed k names ss i rest after
      (axioms.OperandsThen.inverse_roles {one = one} {first = first} {second = second} {r = r} {s = s} h g) =
      joined names one after (role_names r) (role_names s) (role_placed names first r second one h)
      (role_placed one second s rest after g)
  operands_placed k names ss i rest after
      (axioms.OperandsThen.domain {one = one} {first = first} {second = second} {r = r} {ps = ps} h g) =
      joined names one after (role_names r) (flat_map part_names ps) (role_placed names first r second one h)
      (sup_placed one second ps rest after g)
  operands_placed k names ss i rest after
      (axioms.OperandsThen.range {one = one} {first = first} {second = second} {r = r} {ps = ps} h g) =
      joined names one after (role_names r) (flat_map part_names ps) (role_placed names first r second one h)
      (sup_placed one second ps rest after g)
  operands_placed k names ss i rest after (axioms.OperandsThen.symmetric {r = r} h) = role_placed names ss r rest
      after h
  operands_placed k names ss i rest after (axioms.OperandsThen.asymmetric {r = r} h) = role_placed names ss r rest
      after h
  operands_placed k names ss i rest after (axioms.OperandsThen.irreflexive {r = r} h) = role_placed names ss r rest
      after h
  operands_placed k names ss i rest after (axioms.OperandsThen.is_in {one = one} {s = s} {t = t} {c = c} {a = a} h g) =
      joined names one after (c ∷ []) (a ∷ []) (name_placed _ names s c one h) (name_placed _ one t a after g)
  operands_placed k names ss i rest after (axioms.OperandsThen.in_thing is iri free) = nothing names
  operands_placed k names ss i rest after
      (axioms.OperandsThen.joined {one = one} {two = two} {first = first} {r = r} {s = s} {t = t} {a = a} {b = b} h g
      f) =
      by r.inverse
    where
      all : Placing names after (property_of r ∷ a ∷ b ∷ [])
      all =
          joined names two after (property_of r ∷ a ∷ []) (b ∷ [])
          (joined names one two (property_of r ∷ []) (a ∷ []) (property_placed names first r _ one h) (name_placed _
          one s a two g))
          (name_placed _ two t b after f)

      by : (turned : Bool)
          → Placing names after (fact_names (if turned then facts.Link (property_of r) b a else facts.Link
          (property_of r) a b))
      by false = all
      by true = record {
        grows = all.grows;
        below =
            All-cons (λ place. place < length after) (property_of r) (b ∷ a ∷ [])
            (All-head (λ place. place < length after) (property_of r) (a ∷ b ∷ []) all.below)
            (swapped (λ place. place < length after) a b
            (All-tail (λ place. place < length after) (property_of r) (a ∷ b ∷ []) all.below));
      }
  operands_placed k names ss i rest after (axioms.OperandsThen.different h two) = nothing names
  operands_placed k names ss i rest after (axioms.OperandsThen.declaration {item = item} h) =
      entity_placed names ss item rest after h
  operands_placed k names ss i rest after (axioms.OperandsThen.annotation_of_iri is iri v) = nothing names
  operands_placed k names ss i rest after (axioms.OperandsThen.annotation_of_node is v) = nothing names
  operands_placed k names ss i rest after (axioms.OperandsThen.annotation_axiom is one two) = nothing names

  pub axiom_placed : (names : List Text) (ss : List Symbol) (i : Item) (rest : List Symbol) (after : List Text)
      → AxiomThen p names ss i rest after → Placing names after (item_names i)
  axiom_placed names ss i rest after (axioms.AxiomThen.axiom_of {k = k} {operands = operands} annotated h) =
      operands_placed k names operands i _ after h

-- the places that a document names are below this
pub record DocumentBelow (count : ℕ) (d : Document) : Type 0 where
  pub axioms : All (λ stated. All (λ place. place < count) (axiom_names stated)) d.axioms
  pub facts : All (λ fact. All (λ place. place < count) (fact_names fact)) d.facts
  pub classes : All (λ place. place < count) d.classes
  pub roles : All (λ place. place < count) d.roles

pub empty_below : (count : ℕ) → DocumentBelow count empty_document
empty_below count = record {
  axioms = All-nil (λ stated. All (λ place. place < count) (axiom_names stated));
  facts = All-nil (λ fact. All (λ place. place < count) (fact_names fact));
  classes = All-nil (λ place. place < count);
  roles = All-nil (λ place. place < count);
}

all_later : (count more : ℕ) (places : List ℕ) → count ≤ more → All (λ place. place < count) places
    → All (λ place. place < more) places
all_later count more places le below =
    All-weaker (λ place. place < count) (λ place. place < more) (λ place h. omega arith) places below

document_later : (count more : ℕ) (d : Document) → count ≤ more → DocumentBelow count d → DocumentBelow more d
document_later count more d le h = record {
  axioms =
      All-weaker (λ stated. All (λ place. place < count) (axiom_names stated))
      (λ stated. All (λ place. place < more) (axiom_names stated)) (λ stated g. all_later count more (axiom_names
      stated) le g)
      d.axioms h.axioms;
  facts =
      All-weaker (λ fact. All (λ place. place < count) (fact_names fact))
      (λ fact. All (λ place. place < more) (fact_names fact)) (λ fact g. all_later count more (fact_names fact) le g)
      d.facts h.facts;
  classes = all_later count more d.classes le h.classes;
  roles = all_later count more d.roles le h.roles;
}

-- one more at the end
one_more : {A : Type 0} (P : A → Type 0) (xs : List A) (x : A) → All P xs → P x → All P (xs ++ x ∷ [])
one_more P xs x all h = All-append P xs (x ∷ []) all (All-cons P x [] h (All-nil P))

document_item : (count : ℕ) (d : Document) (i : Item) → DocumentBelow count d
    → All (λ place. place < count) (item_names i)
    → DocumentBelow count (with_item d i)
document_item count d (items.Axiom a) h g = record {
  axioms = one_more (λ stated. All (λ place. place < count) (axiom_names stated)) d.axioms a h.axioms g;
  facts = h.facts;
  classes = h.classes;
  roles = h.roles;
}
document_item count d (items.Fact f) h g = record {
  axioms = h.axioms;
  facts = one_more (λ fact. All (λ place. place < count) (fact_names fact)) d.facts f h.facts g;
  classes = h.classes;
  roles = h.roles;
}
document_item count d (items.Class n) h g = record {
  axioms = h.axioms;
  facts = h.facts;
  classes = one_more (λ place. place < count) d.classes n h.classes (All-head (λ place. place < count) n [] g);
  roles = h.roles;
}
document_item count d (items.Role n) h g = record {
  axioms = h.axioms;
  facts = h.facts;
  classes = h.classes;
  roles = one_more (λ place. place < count) d.roles n h.roles (All-head (λ place. place < count) n [] g);
}
document_item count d items.NoEffect h g = h

-- the names grow, and the document's places are among them then
pub record Places (names : List Text) (d : Document) (after : List Text) : Type 0 where
  pub grows : Extends names after
  pub below : DocumentBelow (length after) d

item_added : (names after : List Text) (d : Document) (i : Item) → DocumentBelow (length names) d
    → Placing names after (item_names i) → DocumentBelow (length after) (with_item d i)
item_added names after d i h g =
    document_item (length after) d i
    (document_later (length names) (length after) d (length-Extends names after g.grows) h) g.below

axioms_placed : (p : Prefixes) (d : Document) (names : List Text) (ss : List Symbol) (whole : Document) (rest : List
    Symbol)
    (after : List Text) → AxiomsThen p d names ss whole rest after → DocumentBelow (length names) d
    → Places names whole after
axioms_placed p d names ss whole rest after ontologies.AxiomsThen.none h = record {
  grows = Extends-same names;
  below
      = h;
}
axioms_placed p d names ss whole rest after
    (ontologies.AxiomsThen.more {one = one} {first = first} {others = others} {item = item} g f) h =
    let step = axiom_placed p names first item others one g in
    let later =
    axioms_placed p (with_item d item) one others whole rest after f (item_added names one d item h step) in
    record { grows = Extends-trans names one after step.grows later.grows; below = later.below }

-- ---- so it is of what is read

pub ontology_places : (names : List Text) (tokens : List Placed) (d : Document) (after : List Text)
    → outcome prologue (start names) tokens ≡ gives d after → Places names d after
ontology_places names tokens d after h =
    let text = (sound d after tokens prologue (start names) h).0 in
    axioms_placed text.prefixes empty_document names text.then.1.1.0 d (closing ∷ ending ∷ []) after text.then.1.1.1.1
    (empty_below (length names))

pub axiom_places : (names : List Text) (tokens : List Placed) (d : Document) (after : List Text)
    → outcome lone_axiom (start names) tokens ≡ gives d after → Places names d after
axiom_places names tokens d after h =
    let text = (sound d after tokens lone_axiom (start names) h).0 in
    let step = axiom_placed predefined names (symbols_of tokens) text.item (ending ∷ []) after text.read in
    record {
      grows = step.grows;
      below =
          subst (DocumentBelow (length after)) (sym text.is)
          (item_added names after empty_document text.item (empty_below (length names)) step);
    }
