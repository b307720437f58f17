-- The root of a load: what the limits say, and that a book and shards are those of the root.
use Rattle.std.proofs.Common.{◌≡◌, ℕ, ◌-◌, ◌^◌, ◌<◌, ◌≤◌, min, true, false, cond, nat_lt, List, [], ◌∷◌, map, filter, length, get_or, Option, Some, None, Result, Ok, Err, MatchResult, IfOk, IfErr, All, refl, sym, ap, subst, ◌∙◌, arith}
use Rattle.std.specs.List.Sorted.{IsStrictlySortedBy}
use Rattle.std.proofs.lemmas.Bool.Decides.{nat_tests}
use Rattle.std.proofs.lemmas.List.{length-map}
use Rattle.std.proofs.lemmas.List.Elements.{All-nil, All-cons, All-contains}
use Rattle.dl_terms.specs.Order.{axiom_cmp, fact_cmp}
use Rattle.dl_terms.specs.Sets.{IsSetOf}
use Rattle.dl_terms.specs.declared.axiom.Axiom.{Axiom}
use Rattle.dl_terms.specs.declared.axiom.Fact.{Fact}
use Rattle.dl_terms.specs.declared.axiom.Fact.TheVariants.{Is, Link}
use Rattle.dl_terms.specs.declared.axiom.Signature.{Signature}
use Rattle.dl_terms.proofs.OrderLemmas.{numbers_linear, facts_linear, axioms_linear}
use Rattle.dl_terms.proofs.MemberLemmas.{sorted_unique}
use Rattle.dl_normal.specs.Weight.{total_weight}
use Rattle.dl_hier.specs.Predicates.{max_predicates}
use Rattle.dl_row.specs.Laws.{row_total}
use Rattle.dl_row.specs.Lists.{count, ordered}
use Rattle.dl_row.specs.Rows.{Epoch, row_cmp}
use Rattle.dl_row.specs.Shards.{max_rows}
use Rattle.dl_row.specs.declared.row.Row.{Row}
use Rattle.dl_row.proofs.CountLemmas.{count-ordered}
use Rattle.dl_row.proofs.OrderedLemmas.{ordered-ascends, length-ordered}
use Rattle.dl_row.proofs.RowLemmas.{rows_linear}
use Rattle.dl_epoch.specs.Frozen.{Frozen, IsFrozen, from_version}
use Rattle.dl_epoch.specs.Covering.{epoch_in}
use Rattle.dl_epoch.specs.Known.{IsSignature, max_weight}
use Rattle.dl_edits.specs.Sets.{has}
use Rattle.dl_edits.specs.Names.{predicates}
use Rattle.dl_edits.specs.Sets.{with_items}
use Rattle.dl_core.specs.History.{Load}
use Rattle.dl_core.specs.Root.{Root, IsLoad, StandsFor, stands_in}
use Rattle.dl_edits.specs.Signatures.{knows}
use Rattle.dl_migrate.specs.Tallies.{carries}
use Rattle.dl_core.specs.Next.{Numbering, GoesByRule, epoch_from, row_for, loaded, load_refused, max_count}
use Rattle.dl_core.specs.Held.{IsHeld, CountsRows, root_over}
use Rattle.dl_core.specs.Loading.{IsFactIn, IsLoadWithin, IsLoadOf, IsLoaded, AreOrderedParts, first_entry, first_book, load_with}
use Rattle.dl_core.specs.declared.book.Book.{Book}
use Rattle.dl_core.specs.declared.fault.LoadFault.{LoadFault}
use Rattle.dl_core.specs.declared.fault.LoadFault.TheVariants as fault
use Rattle.dl_edits.proofs.CountLemmas.{count-map, count-same}
use Rattle.dl_core.proofs.HeldLemmas.{shards_are, held_over, held_root}
use Rattle.dl_core.proofs.ShardLemmas.{filter-ordered}
use Rattle.dl_core.proofs.RunLemmas.{loaded_stands}
use Rattle.dl_core.proofs.RuleLemmas.{rule_is_numbering, ruled_epoch, rule_exists}
use Rattle.dl_edits.proofs.SetOfLemmas.{set_between, set_exists}
use Rattle.dl_edits.proofs.AuxiliaryLemmas.{count_all}
use Rattle.dl_edits.proofs.AscendLemmas.{sorted-once, signature-once}
use Rattle.dl_edits.proofs.SetLemmas.{has_there, there_has}

-- ---- the limits

above : (n m : ℕ) → n < m → nat_lt n m ≡ true
above n m h = grind (arith, nat_tests)

not_above : (n m : ℕ) → m ≤ n → nat_lt n m ≡ false
not_above n m h = grind (arith, nat_tests)

is_above : (n m : ℕ) → nat_lt n m ≡ false → m ≤ n
is_above n m e = grind (arith, nat_tests)

module _ (l : Load) where
  -- what is left of the refusals behind the first limit, and behind the second
  rows_refused : Option LoadFault
  rows_refused = cond (nat_lt max_rows (length l.facts)) (Some (fault.Full (length l.facts))) None

  names_refused : Option LoadFault
  names_refused =
      cond (nat_lt max_predicates (predicates l.axioms l.signature))
      (Some (fault.TooManyPredicates (predicates l.axioms l.signature))) rows_refused

  pub heavy : (weight : ℕ) → weight ≡ min (total_weight l.axioms) (2 ^ 64 - 1) → max_weight < weight
      → load_refused l ≡ Some (fault.TooManyAxioms weight)
  unfolding names_refused rows_refused
  heavy weight is over =
      ap (λ b. cond b (Some (fault.TooManyAxioms (min max_count (total_weight l.axioms)))) names_refused)
      (above max_weight (total_weight l.axioms) (omega (arith, is, over)))
      ∙ ap (λ w. Some (fault.TooManyAxioms w)) (omega (arith, is))

  pub light : (weight : ℕ) → weight ≡ min (total_weight l.axioms) (2 ^ 64 - 1) → weight ≤ max_weight
      → total_weight l.axioms ≤ max_weight
  light weight is under = omega (arith, is, under)

  module _ (is_light : total_weight l.axioms ≤ max_weight) where
    past_weight : load_refused l ≡ names_refused
    unfolding names_refused rows_refused
    past_weight =
        ap (λ b. cond b (Some (fault.TooManyAxioms (min max_count (total_weight l.axioms)))) names_refused)
        (not_above max_weight (total_weight l.axioms) is_light)

    pub many : (n : ℕ) → n ≡ predicates l.axioms l.signature → max_predicates < n
        → load_refused l ≡ Some (fault.TooManyPredicates n)
    unfolding names_refused
    many n is over =
        past_weight
        ∙ ap (λ b. cond b (Some (fault.TooManyPredicates (predicates l.axioms l.signature))) rows_refused)
        (above max_predicates (predicates l.axioms l.signature) (omega (arith, is, over)))
        ∙ ap (λ k. Some (fault.TooManyPredicates k)) (sym is)

    module _ (are_few : predicates l.axioms l.signature ≤ max_predicates) where
      past_names : load_refused l ≡ rows_refused
      unfolding names_refused
      past_names =
          past_weight
          ∙ ap (λ b. cond b (Some (fault.TooManyPredicates (predicates l.axioms l.signature))) rows_refused)
          (not_above max_predicates (predicates l.axioms l.signature) are_few)

      pub full : (n : ℕ) → n ≡ length l.facts → max_rows < n → load_refused l ≡ Some (fault.Full n)
      unfolding rows_refused
      full n is over =
          past_names
          ∙ ap (λ b. cond b (Some (fault.Full (length l.facts))) None)
          (above max_rows (length l.facts) (omega (arith, is, over)))
          ∙ ap (λ k. Some (fault.Full k)) (sym is)

      pub none_passed : length l.facts ≤ max_rows → load_refused l ≡ None
      unfolding rows_refused
      none_passed fits =
          past_names
          ∙ ap (λ b. cond b (Some (fault.Full (length l.facts))) None) (not_above max_rows (length l.facts) fits)

-- ---- what a load within the limits meets

-- the load of lists that ascend is of these lists
pub ascending_load : (axioms : List Axiom) (s : Signature) (facts : List Fact) (shards : ℕ) (l : Load)
    → IsStrictlySortedBy axiom_cmp axioms → IsStrictlySortedBy fact_cmp facts → IsLoadOf axioms s facts shards l
    → load_with axioms s facts shards ≡ l
ascending_load axioms s facts shards l up up' is =
    let a = sorted_unique axioms_linear axioms l.axioms up is.axioms_are.ascending
    (λ x. (is.axioms_are.members x).1) (λ x. (is.axioms_are.members x).0) in
    let f = sorted_unique facts_linear facts l.facts up' is.facts_are.ascending
    (λ x. (is.facts_are.members x).1) (λ x. (is.facts_are.members x).0) in
    (λ i. record { axioms = a i; signature = sym is.signature_is i; facts = f i; shards = sym is.shards_are i })

pub load_exists : (axioms : List Axiom) (s : Signature) (facts : List Fact) (shards : ℕ)
    → (l : Load) × IsLoadOf axioms s facts shards l
load_exists axioms s facts shards = (
  load_with (with_items axiom_cmp axioms []) s (with_items fact_cmp facts []) shards,
  record {
    axioms_are = set_exists axioms_linear axioms;
    signature_is = refl;
    facts_are = set_exists facts_linear facts;
    shards_are = refl;
  },
)

fact_known : (s : Signature) (f : Fact) → IsFactIn s f → knows s f ≡ true
fact_known s (Is c a) there = has_there numbers_linear s.classes c there
fact_known s (Link p a b) there = has_there numbers_linear s.roles p there

pub is_load : (l : Load) → IsSignature l.signature → All (IsFactIn l.signature) l.facts
    → IsStrictlySortedBy fact_cmp l.facts → 1 ≤ l.shards → l.shards ≤ 64 → IsLoadWithin l → IsLoad l
is_load l signature known up some most within = record {
  facts = sorted-once facts_linear l.facts up;
  signature = signature-once l.signature signature;
  known = λ f h.
      fact_known l.signature f
      (All-contains (IsFactIn l.signature) l.facts f known (there_has facts_linear l.facts f h));
  weights = within.weights;
  few = within.few;
  kept = within.kept;
  shards = (some, most);
}

-- ---- a book and shards are those of the root

module _ (numbering : Numbering) (rule : GoesByRule numbering) (l : Load) (is : IsLoad l) (e : Frozen)
    (frozen : IsFrozen e) (id : e.id ≡ 1) (axioms : e.axioms ≡ l.axioms) (signature : e.signature ≡ l.signature) where
  current : Epoch
  current = epoch_from numbering 1 1 l.axioms l.signature

  same_epoch : from_version 1 e ≡ current
  unfolding current
  same_epoch =
      ruled_epoch numbering rule e frozen 1
      ∙ (λ i. epoch_from numbering (id i) 1 (axioms i) (signature i))

  carried : (f : Fact) → carries 1 (row_for current 1 f) ≡ true
  unfolding current
  carried (Is c a) = refl
  carried (Link p a b) = refl

  module _ (book : Book) (made : List (List Row)) (book_is : book ≡ first_book e (length l.facts))
      (parts : AreOrderedParts l.shards (map (row_for (from_version 1 e) 1) l.facts) made) where
    rows_counted : length l.facts ≡ count (carries 1) (ordered row_cmp (map (row_for current 1) l.facts))
    rows_counted =
        sym (count-ordered (carries 1) row_cmp (map (row_for current 1) l.facts)
        ∙ count-map (carries 1) (row_for current 1) l.facts
        ∙ count-same (λ f. carries 1 (row_for current 1 f)) (λ f. true) l.facts carried ∙ count_all l.facts)

    made_here : (i : ℕ) → i < l.shards
        → get_or made i [] ≡ filter (stands_in l.shards i) (ordered row_cmp (map (row_for current 1) l.facts))
    made_here i h =
        parts.each i h
        ∙ ap (λ d. ordered row_cmp (filter (stands_in l.shards i) (map (row_for d 1) l.facts))) same_epoch
        ∙ sym (filter-ordered rows_linear (stands_in l.shards i) (map (row_for current 1) l.facts))

    pub load_held : IsHeld (loaded numbering l) book made
    unfolding current
    load_held = record {
      tells = record {
        version = ap (λ (b : Book). b.version) book_is;
        epochs = ap (λ (b : Book). map epoch_in b.epochs) book_is ∙ ap (λ d. d ∷ []) same_epoch;
        pins = ap (λ (b : Book). b.pins) book_is;
        rows = ap (λ (b : Book). b.rows) book_is
            ∙ sym (length-ordered row_cmp (map (row_for current 1) l.facts) ∙ length-map l.facts (row_for current 1));
        counts = subst (λ (b : Book). All (CountsRows (loaded numbering l)) b.epochs) (sym book_is)
            (All-cons (CountsRows (loaded numbering l)) (first_entry e (length l.facts)) [] counted
            (All-nil (CountsRows (loaded numbering l))));
        frozen = subst (λ (b : Book). All (λ k. IsFrozen k.epoch) b.epochs) (sym book_is)
            (All-cons (λ k. IsFrozen k.epoch) (first_entry e (length l.facts)) [] frozen
            (All-nil (λ k. IsFrozen k.epoch)));
      };
      shards_are = shards_are (loaded numbering l) made is.shards.0
          (ordered-ascends row_total (map (row_for current 1) l.facts)) parts.count made_here;
      sound = record {
        load = l;
        history = [];
        stands = loaded_stands numbering l (rule_is_numbering numbering rule) is;
      };
    }
      where
        counted : CountsRows (loaded numbering l) (first_entry e (length l.facts))
        counted = rows_counted ∙ ap (λ n. count (carries n) (loaded numbering l).rows) (sym id)

-- ---- the root that comes of an epoch and of shards that were made

module _ (l : Load) (is : IsLoad l) (e : Frozen) (frozen : IsFrozen e) (id : e.id ≡ 1) (axioms : e.axioms ≡ l.axioms)
    (signature : e.signature ≡ l.signature) (book : Book) (made : List (List Row))
    (book_is : book ≡ first_book e (length l.facts))
    (parts : AreOrderedParts l.shards (map (row_for (from_version 1 e) 1) l.facts) made) where
  abbrev held : (numbering : Numbering) → GoesByRule numbering → IsHeld (loaded numbering l) book made
  held numbering rule = load_held numbering rule l is e frozen id axioms signature book made book_is parts

  pub made_held : IsHeld (root_over book made) book made
  made_held = held_over (loaded rule_exists.0 l) book made (held rule_exists.0 rule_exists.1)

  pub made_loaded : (root : Root) → root ≡ root_over book made → IsLoadWithin l → IsLoaded l root
  made_loaded root same within = record {
    within = none_passed l within.weights within.few within.kept;
    is_load = is;
    is = λ numbering rule. same ∙ held_root (loaded numbering l) book made (held numbering rule);
    legal = λ numbering. tt;
    stands =
        subst (StandsFor l [])
        (sym (same ∙ held_root (loaded rule_exists.0 l) book made (held rule_exists.0 rule_exists.1)))
        (loaded_stands rule_exists.0 l (rule_is_numbering rule_exists.0 rule_exists.1) is);
  }

-- ---- sets in place of lists

module _ (s : Signature) (shards : ℕ) (l : Load) where
  pub axioms_in_set : (set axioms : List Axiom) (facts : List Fact) → IsSetOf axiom_cmp set axioms
      → IsLoadOf axioms s facts shards l → IsLoadOf set s facts shards l
  axioms_in_set set axioms facts has is = record {
    axioms_are = set_between l.axioms set axioms is.axioms_are has;
    signature_is = is.signature_is;
    facts_are = is.facts_are;
    shards_are = is.shards_are;
  }

  pub facts_in_set : (axioms : List Axiom) (set facts : List Fact) → IsSetOf fact_cmp set facts
      → IsLoadOf axioms s facts shards l → IsLoadOf axioms s set shards l
  facts_in_set axioms set facts has is = record {
    axioms_are = is.axioms_are;
    signature_is = is.signature_is;
    facts_are = set_between l.facts set facts is.facts_are has;
    shards_are = is.shards_are;
  }

pub one_load : (axioms : List Axiom) (s : Signature) (facts : List Fact) (shards : ℕ) (l m : Load)
    → IsLoadOf axioms s facts shards l → IsLoadOf axioms s facts shards m → l ≡ m
one_load axioms s facts shards l m is also = sym (of_sets l is) ∙ of_sets m also
  where
    of_sets : (k : Load) → IsLoadOf axioms s facts shards k → load_with l.axioms s l.facts shards ≡ k
    of_sets k has =
        ascending_load l.axioms s l.facts shards k is.axioms_are.ascending is.facts_are.ascending
        (axioms_in_set s shards k l.axioms axioms l.facts is.axioms_are
        (facts_in_set s shards k axioms l.facts facts is.facts_are has))

-- ---- what is said of both outcomes, of one

module _ {A E : Type 0} (P : A → Type 0) (Q : E → Type 0) where
  pub match_ok : (r : Result A E) → MatchResult r P Q → IfOk r P
  match_ok (Ok a) h = h
  match_ok (Err e) h = tt

  pub match_err : (r : Result A E) → MatchResult r P Q → IfErr r Q
  match_err (Ok a) h = tt
  match_err (Err e) h = h
