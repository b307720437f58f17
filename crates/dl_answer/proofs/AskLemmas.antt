-- What a pinned version has, by the reader and by the epoch that covers it.
use Rattle.std.proofs.Common.{◌≡◌, ℕ, ◌<◌, ◌≤◌, List, Some, IsSome, map, length, get_or, refl, sym, ap, subst, ◌∙◌}
use Rattle.std.specs.Arc.{arc_value}
use Rattle.std.proofs.lemmas.List.{length-map, get_or-map}
use Rattle.std.specs.List.{All, Contains}
use Rattle.std.proofs.lemmas.List.Elements.{All-contains}
use Rattle.std.specs.declared.option.Option.{Option}
use Rattle.std.specs.declared.option.Option.TheVariants.{None}
use Rattle.std.specs.Option.{option_map}
use Rattle.dl_terms.specs.declared.axiom.Axiom.{Axiom}
use Rattle.dl_terms.specs.declared.axiom.Fact.{Fact}
use Rattle.dl_normal.specs.Weight.{total_weight}
use Rattle.dl_epoch.specs.Known.{max_weight}
use Rattle.dl_epoch.specs.Frozen.{Frozen, IsFrozen, IsHierarchyIn, from_version}
use Rattle.dl_epoch.specs.Covering.{Kept, kept, epoch_in, CoversAt}
use Rattle.dl_epoch.specs.declared.entry.Entry.{Entry as Shared}
use Rattle.dl_core.specs.History.{Load, Entry, version_of, axioms_at, facts_at, signature_at}
use Rattle.dl_core.specs.Root.{Root, IsLoad}
use Rattle.dl_core.specs.Next.{Numbering, IsNumbering}
use Rattle.dl_core.specs.Held.{IsBookOf, IsSound}
use Rattle.dl_core.specs.Legal.{Reader, ReaderStandsFor, pin_shown}
use Rattle.dl_core.specs.Loading.{IsFactIn}
use Rattle.dl_core.specs.declared.book.Book.{Book}
use Rattle.dl_event.specs.declared.pin.Pin.{Pin}
use Rattle.dl_core.proofs.GrowthLemmas.{axioms_stay, signature_stays}
use Rattle.dl_core.proofs.EpochLemmas.{some_some}
use Rattle.dl_core.proofs.PinnedEpochLemmas.{pin_within, entries_light}
use Rattle.dl_core.proofs.ReaderLemmas.{reader_reads}
use Rattle.dl_core.proofs.FactSignatureLemmas.{facts_in}
use Rattle.dl_hier.specs.Hierarchy.{Hierarchy}
use Rattle.dl_row.specs.Rows.{Epoch, covering}
use Rattle.dl_answer.specs.Probes.{AreBehind}
use Rattle.dl_answer.specs.Kept.{AreKept}
use Rattle.dl_answer.specs.Searches.{AreRead}
use Rattle.dl_answer.specs.declared.slots.KeptLists.{KeptLists}
use Rattle.dl_answer.proofs.BuiltLemmas.{epoch_behind}
use Rattle.dl_answer.specs.Readers.{Covers, HasFacts, HasFetched}
use Rattle.dl_answer.proofs.ReaderLemmas.{facts_kept}

-- ---- the pin

-- the pin that is shown is the reader's
pub pin_is : (reader : Reader) (shown : Option Pin) (pin : Pin) → shown ≡ pin_shown reader → shown ≡ Some pin
    → reader.pin ≡ Some pin.version
pin_is reader shown pin is here = by reader.pin (sym is ∙ here)
  where
    by : (p : Option ℕ)
        → option_map (λ version. let q : Pin = record { stream = reader.stream; version = version } in q) p ≡ Some pin
        → p ≡ Some pin.version
    by None e = cc
    by (Some v) e =
        let q : Pin = record { stream = reader.stream; version = v } in
        let same : q ≡ pin = cc in
        ap Some (ap (λ (p : Pin). p.version) same)

pub no_pin_is : (reader : Reader) (shown : Option Pin) → shown ≡ pin_shown reader → shown ≡ None → reader.pin ≡ None
no_pin_is reader shown is here = by reader.pin (sym is ∙ here)
  where
    by : (p : Option ℕ)
        → option_map (λ version. let q : Pin = record { stream = reader.stream; version = version } in q) p ≡ None
        → p ≡ None
    by None e = refl
    by (Some v) e = cc

pub some_pin : (o : Option ℕ) (v : ℕ) → o ≡ Some v → IsSome o
some_pin o v e = subst (λ p. IsSome p) (sym e) refl

pub one_version : (o : Option ℕ) (v w : ℕ) → o ≡ Some v → o ≡ Some w → v ≡ w
one_version o v w e f = cc

-- ---- the epoch

-- the epoch of the entry that covers a version
pub place_inside : (book : Book) (version place : ℕ) (entries : List Shared) → map kept entries ≡ book.epochs
    → CoversAt book.epochs version place → place < length entries
place_inside book version place entries same covers =
    subst (λ n. place < n) (ap length (sym same) ∙ length-map entries kept) covers.inside

module _ (root : Root) (book : Book) (sound : IsSound root) (told : IsBookOf root book) (version place : ℕ)
    (entries : List Shared) (entry : Shared) (same : map kept entries ≡ book.epochs)
    (covers : CoversAt book.epochs version place)
    (is : (d : Kept) → covering (map epoch_in book.epochs) version ≡ Some (epoch_in (get_or book.epochs place d)))
    (read : entry ≡ get_or entries place entry) where
  at_place : get_or book.epochs place (kept entry) ≡ kept entry
  at_place =
      ap (λ l. get_or l place (kept entry)) (sym same) ∙ (get_or-map kept entries place entry (kept entry)
      (place_inside book version place entries same covers)
      ∙ ap kept (sym read))

  is_one : Contains book.epochs (kept entry)
  is_one = (place, covers.inside, at_place)

  module _ (e : Frozen) (its : e ≡ arc_value entry.epoch) where
    pub entry_covers : Covers root version e
    entry_covers = record {
      first = entry.first;
      covers =
          subst (λ es. covering es version ≡ Some (from_version entry.first e)) told.epochs
          (is (kept entry) ∙ (ap (λ (k : Kept). Some (epoch_in k)) at_place
          ∙ ap (λ (x : Frozen). Some (from_version entry.first x)) (sym its)));
    }

    pub entry_frozen : IsFrozen e
    entry_frozen =
        subst IsFrozen (sym its) (All-contains (λ (k : Kept). IsFrozen k.epoch) book.epochs (kept entry) told.frozen is_one)

    pub entry_light : total_weight e.axioms ≤ max_weight
    entry_light =
        subst (λ (x : Frozen). total_weight x.axioms ≤ max_weight) (sym its)
        (All-contains (λ (k : Kept). total_weight k.epoch.axioms ≤ max_weight) book.epochs (kept entry)
        (entries_light root book sound told) is_one)

-- ---- what the version has, by a load and a list of entries

module _ (S T : Numbering → Load → List Entry → Type 0) (r s : Reader)
    (law : (numbering : Numbering) (l : Load) (seen : List Entry) → S numbering l seen → ReaderStandsFor numbering l seen r)
    (now : (numbering : Numbering) (l : Load) (seen : List Entry) → T numbering l seen → ReaderStandsFor numbering l seen s)
    (fetched : HasFetched S r T s) (version : ℕ) (pin : r.pin ≡ Some version) (numbering : Numbering) (l : Load)
    (seen : List Entry) (is_numbering : IsNumbering numbering) (is_load : IsLoad l) (stands : S numbering l seen) where
  pub has_facts : HasFacts T version (facts_at l seen version)
  has_facts = facts_kept law fetched version pin (facts_at l seen version) record {
    numbering = numbering;
    load = l;
    seen = seen;
    is_numbering = is_numbering;
    is_load = is_load;
    stands = stands;
    are = refl;
  }

  module _ (e : Frozen) (covers : Covers s.root version e) where
    within : version ≤ version_of seen
    within = (pin_within numbering l seen r version is_numbering is_load (law numbering l seen stands) pin).1

    reads : (e.axioms ≡ axioms_at l seen version) × (e.signature ≡ signature_at l seen version)
    reads =
        let more = fetched.seen numbering l seen stands in
        let own = reader_reads numbering l more.seen s version is_numbering is_load (now numbering l more.seen more.stands)
        (fetched.pin ∙ pin) in
        let same : own.epoch ≡ from_version covers.first e = some_some (sym own.covers ∙ covers.covers) in (
          sym (ap (λ (x : Epoch). x.axioms) same)
              ∙ (own.axioms_are ∙ axioms_stay l seen more.seen version more.begins within),
          sym (ap (λ (x : Epoch). x.signature) same)
              ∙ (own.signature_is ∙ signature_stays l seen more.seen version more.begins within),
        )

    pub has_axioms : e.axioms ≡ axioms_at l seen version
    has_axioms = reads.0

    pub knows_facts : All (IsFactIn e.signature) (facts_at l seen version)
    knows_facts =
        subst (λ s. All (IsFactIn s) (facts_at l seen version)) (sym reads.1) (facts_in l seen version is_load)

-- ---- what is read, with no list kept

pub all_read : (S : Numbering → Load → List Entry → Type 0) (version : ℕ) (h : Hierarchy) (lists : KeptLists) (e : Frozen)
    (axioms : List Axiom) (facts : List Fact) → axioms ≡ e.axioms → IsHierarchyIn e h → IsFrozen e
    → All (IsFactIn e.signature) facts → HasFacts S version facts → AreKept axioms facts lists
    → AreRead S version h lists axioms facts
all_read S version h lists e axioms facts same hierarchy frozen known has are = record {
  has = has;
  behind = subst (λ l. AreBehind h l facts) (sym same) (epoch_behind e h facts hierarchy frozen.known known);
  kept = are;
}
