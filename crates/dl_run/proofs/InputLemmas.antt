-- The files of an input give one at most, and what was read by places is one by numbers.
use Rattle.std.proofs.Common.{◌≡◌, ◌↔◌, is_some, ℕ, ◌<◌, ◌≤◌, List, [], ◌++◌, length, map, flat_map, get_or, slice_index, slice_get, Option, Some, None, subst, ap, sym, ◌∙◌, refl, arith, true≢false}
use Rattle.std.specs.Ordering.{nat_cmp}
use Rattle.std.specs.declared.cmp.Ordering.{Ordering}
use Rattle.std.specs.List.{All}
use Rattle.std.proofs.lemmas.List.{length-map, map-append}
use Rattle.std.proofs.lemmas.List.Elements.{All-append, All-contains, All-weaker, Contains-get_or}
use Rattle.dl_names.specs.NameList.{Text, has_name, max_names}
use Rattle.dl_names.specs.Frozen.{IsFrozen, IsAscending}
use Rattle.dl_names.specs.Iris.{owl_nothing}
use Rattle.dl_names.proofs.NameListLemmas.{length-Extends, has_name-slice_get}
use Rattle.dl_names.proofs.FrozenLemmas.{rank-lt, number-unique}
use Rattle.dl_names.proofs.SameFrozenLemmas.{IsFrozen-same_names, IsFrozen-same_ranks}
use Rattle.dl_terms.specs.Sets.{IsSetOf}
use Rattle.dl_terms.specs.Order.{axiom_cmp, fact_cmp}
use Rattle.dl_terms.specs.Occurring.{axiom_names, fact_names}
use Rattle.dl_terms.specs.Renamed.{renamed_axiom, renamed_fact}
use Rattle.dl_terms.specs.declared.axiom.Axiom.{Axiom}
use Rattle.dl_terms.specs.declared.axiom.Fact.{Fact}
use Rattle.dl_terms.specs.declared.axiom.Signature.{Signature}
use Rattle.dl_terms.proofs.AnswerLemmas.{IsSetOf-unique}
use Rattle.dl_terms.proofs.OrderLemmas.{axioms_linear, facts_linear, numbers_linear}
use Rattle.dl_terms.proofs.OccurringLemmas.{axiom_names-renamed, fact_names-renamed}
use Rattle.dl_owl.specs.declared.document.Document.{Document}
use Rattle.dl_owl.specs.Expected.{prologue}
use Rattle.dl_owl.proofs.TokenLists.{one_value}
use Rattle.dl_triples.specs.Reading.{IsValue}
use Rattle.dl_triples.proofs.PlaceLemmas.{read_grows}
use Rattle.dl_triples.proofs.ValueLemmas.{one_value as one_data}
use Rattle.dl_run.specs.Input.{KnowledgeBase, IsNumberOf, AreRead, IsNumbered, AreInput}
use Rattle.dl_run.specs.Numbered.{ArePlaced}
use Rattle.dl_run.specs.ThirdFile.{ThirdFile}
use Rattle.dl_epoch.specs.Predicates.{axiom_classes, axiom_properties, fact_classes, fact_properties}
use Rattle.dl_run.specs.Signature.{IsSignatureOf}
use Rattle.dl_run.proofs.ThirdLemmas.{IsDetermined}
use Rattle.dl_hier.proofs.MemberLemmas.{Contains-map}

-- ---- one input

-- ontology and data are read in one way
pub AreRead-unique : {o d : List ℕ} {document other : Document} {triples others : List Fact} {skipped also : ℕ} {names later : List Text}
    → AreRead o d document triples skipped names → AreRead o d other others also later
    → (document ≡ other) × (triples ≡ others) × (skipped ≡ also) × (names ≡ later)
AreRead-unique {o} {d} {document} {other} {triples} {others} {skipped} {also} {names} {later} one two =
    let first = one_value o prologue [] document other one.first two.first one.is_ontology two.is_ontology in
    let then =
    one_data d two.first triples others skipped also names later (subst (λ m. IsValue d m triples skipped names) first.1 one.is_data) two.is_data
    in
    (first.0, then.0, then.1, then.2)

-- a text has one number at most
IsNumberOf-unique : (names : List Text) → IsAscending names → (text : Text) (a b : Option ℕ) → IsNumberOf names text a → IsNumberOf names text b → a ≡ b
IsNumberOf-unique names ascending text None None h k = refl
IsNumberOf-unique names ascending text None (Some m) h k = absurd (true≢false (sym (has_name-slice_get names text m k) ∙ h))
IsNumberOf-unique names ascending text (Some n) None h k = absurd (true≢false (sym (has_name-slice_get names text n h) ∙ k))
IsNumberOf-unique names ascending text (Some n) (Some m) h k = ap Some (number-unique names ascending n m text h k)

same_base : (a b : KnowledgeBase) → a.names ≡ b.names → a.load.axioms ≡ b.load.axioms → a.load.facts ≡ b.load.facts → a.load.signature ≡ b.load.signature
    → a.load.shards ≡ b.load.shards → a.skipped ≡ b.skipped → a.nothing ≡ b.nothing → a ≡ b
same_base a b names axioms facts signature shards skipped nothing = λ i. record {
  names = names i;
  load = record { axioms = axioms i; signature = signature i; facts = facts i; shards = shards i };
  skipped = skipped i;
  nothing = nothing i;
}

-- the same axioms, facts and declared names have one signature
one_signature : {axioms others : List Axiom} {facts also : List Fact} {classes roles cs rs : List ℕ} {signature other : Signature}
    → axioms ≡ others → facts ≡ also → classes ≡ cs → roles ≡ rs → IsSignatureOf axioms facts classes roles signature
    → IsSignatureOf others also cs rs other → signature ≡ other
one_signature {axioms} {others} {facts} {also} {classes} {roles} {cs} {rs} {signature} {other} a b c d one two =
    let same_classes : (classes ++ flat_map axiom_classes axioms) ++ flat_map fact_classes facts ≡ (cs ++ flat_map axiom_classes others) ++ flat_map fact_classes also =
    λ i. (c i ++ flat_map axiom_classes (a i)) ++ flat_map fact_classes (b i) in
    let same_roles : (roles ++ flat_map axiom_properties axioms) ++ flat_map fact_properties facts ≡ (rs ++ flat_map axiom_properties others) ++ flat_map fact_properties also =
    λ i. (d i ++ flat_map axiom_properties (a i)) ++ flat_map fact_properties (b i) in
    let first = IsSetOf-unique numbers_linear _ _ _ (subst (IsSetOf nat_cmp signature.classes) same_classes one.classes_are) two.classes_are in
    let second = IsSetOf-unique numbers_linear _ _ _ (subst (IsSetOf nat_cmp signature.roles) same_roles one.roles_are) two.roles_are in
    λ i. record { classes = first i; roles = second i }

-- a signature of what is the same
pub signature_from : {axioms others : List Axiom} {facts also : List Fact} {classes roles cs rs : List ℕ} {signature : Signature} → axioms ≡ others
    → facts ≡ also → classes ≡ cs → roles ≡ rs → IsSignatureOf axioms facts classes roles signature → IsSignatureOf others also cs rs signature
signature_from {axioms} {others} {facts} {also} {classes} {roles} {cs} {rs} {signature} a b c d =
    subst (λ (p : (List Axiom × List Fact) × (List ℕ × List ℕ)). IsSignatureOf p.0.0 p.0.1 p.1.0 p.1.1 signature)
    (λ i. ((a i, b i), (c i, d i)))

-- what was read is one knowledge base, where that has so many shards
one_base : {document other : Document} {triples others : List Fact} {skipped also : ℕ} {met later : List Text} {ranks more : List ℕ} {base second : KnowledgeBase}
    → document ≡ other → triples ≡ others → skipped ≡ also → met ≡ later → base.load.shards ≡ second.load.shards
    → IsNumbered document triples skipped met ranks base → IsNumbered other others also later more second → (base ≡ second) × (ranks ≡ more)
one_base {document} {other} {triples} {others} {skipped} {also} {met} {later} {ranks} {more} {base} {second} same_document same_triples same_skipped same_met shards one two =
    let frozen = subst (λ m. IsFrozen m base.names ranks) same_met one.is_frozen in
    let names = IsFrozen-same_names later base.names second.names ranks more frozen two.is_frozen in
    let same_ranks = IsFrozen-same_ranks later base.names second.names ranks more frozen two.is_frozen in
    let renamed : map (renamed_axiom (slice_index ranks)) document.axioms ≡ map (renamed_axiom (slice_index more)) other.axioms =
    λ i. map (renamed_axiom (slice_index (same_ranks i))) (same_document i).axioms in
    let joined : map (renamed_fact (slice_index ranks)) (triples ++ document.facts) ≡ map (renamed_fact (slice_index more)) (others ++ other.facts) =
    λ i. map (renamed_fact (slice_index (same_ranks i))) (same_triples i ++ (same_document i).facts) in
    let axioms = IsSetOf-unique axioms_linear _ _ _ (subst (IsSetOf axiom_cmp base.load.axioms) renamed one.is_axioms) two.is_axioms in
    let facts = IsSetOf-unique facts_linear _ _ _ (subst (IsSetOf fact_cmp base.load.facts) joined one.is_facts) two.is_facts in
    let signature =
    one_signature axioms facts (λ i. map (slice_index (same_ranks i)) (same_document i).classes) (λ i. map (slice_index (same_ranks i)) (same_document i).roles)
    one.is_signature two.is_signature in
    let nothing =
    IsNumberOf-unique second.names two.is_frozen.ascending owl_nothing base.nothing second.nothing
    (subst (λ n. IsNumberOf n owl_nothing base.nothing) names one.is_nothing) two.is_nothing
    in
    (same_base base second names axioms facts signature shards (one.is_skipped ∙ same_skipped ∙ sym two.is_skipped) nothing, same_ranks)

-- the files give one input at most
pub AreInput-unique : {third : ThirdFile} {shards : ℕ} {o d l : List ℕ} {base other : KnowledgeBase} {value also : third.Value} → IsDetermined third
    → AreInput third shards o d l base value → AreInput third shards o d l other also → (base ≡ other) × (value ≡ also)
AreInput-unique {third} {shards} {o} {d} {l} {base} {other} {value} {also} determined one two =
    let read = AreRead-unique one.are_read two.are_read in
    let last = determined.one_value l two.met_before one.read two.read one.met two.met
    (subst (λ m. third.IsValue l m one.read one.met) read.3 one.is_third) two.is_third in
    let same = one_base read.0 read.1 read.2 last.1 (one.are_shards ∙ sym two.are_shards) one.is_base two.is_base in (
      same.0,
      one.is_value ∙ ap (λ r. third.renamed (slice_index r) one.read) same.1 ∙ ap (third.renamed (slice_index two.ranks)) last.0 ∙ sym two.is_value,
    )

-- ---- sets by numbers

module _ (met names : List Text) (ranks : List ℕ) (frozen : IsFrozen met names ranks) where
  -- ranks of places are numbers of names
  ranked_within : (places : List ℕ) → All (λ place. place < length met) places → All (λ name. name < length names) (map (slice_index ranks) places)
  ranked_within places all k d h =
      let x = Contains-map (slice_index ranks) places (get_or (map (slice_index ranks) places) k d) (Contains-get_or _ k d h) in
      subst (λ n. n < length names) x.2 (rank-lt met names ranks frozen x.0 (All-contains (λ (place : ℕ). place < length met) places x.0 all x.1))

  -- the terms of a set over ranks name names
  module _ {A : Type 0} (cmp : A → A → Ordering) (names_of : A → List ℕ) (renamed : A → A)
      (is : (a : A) → names_of (renamed a) ≡ map (slice_index ranks) (names_of a)) where
    pub ranked_named : (items set : List A) → All (λ a. All (λ place. place < length met) (names_of a)) items → IsSetOf cmp set (map renamed items)
        → All (λ a. All (λ name. name < length names) (names_of a)) set
    ranked_named items set all of k d h =
        let y = get_or set k d in
        let x = Contains-map renamed items y ((of.members y).0 (Contains-get_or set k d h)) in
        let within = ranked_within (names_of x.0) (All-contains (λ (a : A). All (λ place. place < length met) (names_of a)) items x.0 all x.1) in
        subst (λ z. All (λ name. name < length names) (names_of z)) x.2
        (subst (All (λ name. name < length names)) (sym (is x.0)) within)

  pub ranked_axioms : (items set : List Axiom) → All (λ a. All (λ place. place < length met) (axiom_names a)) items
      → IsSetOf axiom_cmp set (map (renamed_axiom (slice_index ranks)) items) → All (λ a. All (λ name. name < length names) (axiom_names a)) set
  ranked_axioms = ranked_named axiom_cmp axiom_names (renamed_axiom (slice_index ranks)) (axiom_names-renamed (slice_index ranks))

  pub ranked_facts : (items set : List Fact) → All (λ f. All (λ place. place < length met) (fact_names f)) items
      → IsSetOf fact_cmp set (map (renamed_fact (slice_index ranks)) items) → All (λ f. All (λ name. name < length names) (fact_names f)) set
  ranked_facts = ranked_named fact_cmp fact_names (renamed_fact (slice_index ranks)) (fact_names-renamed (slice_index ranks))

-- ---- places

-- and so do the places of numbers alone
pub numbers_later : (n m : ℕ) (items : List ℕ) → n ≤ m → All (λ place. place < n) items → All (λ place. place < m) items
numbers_later n m items more = All-weaker (λ (place : ℕ). place < n) (λ place. place < m) (λ place below. omega arith) items

-- places stay places while names are added
pub placed_later : {A : Type 0} (names_of : A → List ℕ) (n m : ℕ) (items : List A) → n ≤ m
    → All (λ a. All (λ place. place < n) (names_of a)) items → All (λ a. All (λ place. place < m) (names_of a)) items
placed_later {A} names_of n m items more =
    All-weaker (λ (a : A). All (λ place. place < n) (names_of a)) (λ a. All (λ place. place < m) (names_of a))
    (λ a h. All-weaker (λ (place : ℕ). place < n) (λ place. place < m) (λ place below. omega arith) (names_of a) h) items

-- reading the data adds names alone
pub data_grows : {bytes : List ℕ} {names after : List Text} {triples : List Fact} {skipped : ℕ} → IsValue bytes names triples skipped after
    → length names ≤ length after
data_grows {names = names} {after = after} value = length-Extends names after (read_grows value.read)

-- what is placed stays so
pub ArePlaced-later : (n m : ℕ) (document : Document) (triples : List Fact) → n ≤ m → ArePlaced n document triples → ArePlaced m document triples
ArePlaced-later n m document triples more placed = record {
  no_auxiliaries = placed.no_auxiliaries;
  axioms = placed_later axiom_names n m document.axioms more placed.axioms;
  facts = placed_later fact_names n m document.facts more placed.facts;
  classes = numbers_later n m document.classes more placed.classes;
  roles = numbers_later n m document.roles more placed.roles;
  triples = placed_later fact_names n m triples more placed.triples;
}

-- the set of the facts of two lists, by ranks
pub set_of_joined : (to : ℕ → ℕ) (facts others ranked also both set : List Fact) → ranked ≡ map (renamed_fact to) facts → also ≡ map (renamed_fact to) others
    → both ≡ ranked ++ also → IsSetOf fact_cmp set both → IsSetOf fact_cmp set (map (renamed_fact to) (facts ++ others))
set_of_joined to facts others ranked also both set one two is =
    subst (IsSetOf fact_cmp set) (is ∙ (λ i. one i ++ two i) ∙ sym (map-append (renamed_fact to) facts others))

-- and their places
pub joined_placed : (n : ℕ) (facts others : List Fact) → All (λ f. All (λ place. place < n) (fact_names f)) facts
    → All (λ f. All (λ place. place < n) (fact_names f)) others → All (λ f. All (λ place. place < n) (fact_names f)) (facts ++ others)
joined_placed n facts others = All-append (λ (f : Fact). All (λ place. place < n) (fact_names f)) facts others

-- the number of a text, as a search for it gives it
pub number_found : (names : List Text) (text : Text) (o : Option ℕ) → ((n : ℕ) → (o ≡ Some n) ↔ (slice_get names n ≡ Some text))
    → is_some o ≡ has_name names text → IsNumberOf names text o
number_found names text (Some n) some none = (some n).0 refl
number_found names text None some none = sym none

-- a set of names is as long as the keys that hold it
pub fits_from_keys : {A : Type 0} (f : A → Text) (keys : List A) (names : List Text) → map f keys ≡ names → length keys ≤ max_names → length names ≤ max_names
fits_from_keys f keys names is fits = omega (arith, ap length (sym is), length-map keys f)
