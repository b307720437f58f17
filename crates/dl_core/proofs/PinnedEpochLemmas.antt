-- The entry of a book that covers a pinned version.
use Rattle.std.proofs.Common.{◌≡◌, ℕ, ◌≤◌, Bool, true, false, cond, nat_le, List, [], ◌∷◌, map, Option, Some, None, refl, sym, ap, subst, ◌∙◌}
use Rattle.std.specs.List.{All, Any, Contains}
use Rattle.std.proofs.lemmas.Bool.{leb-true}
use Rattle.std.proofs.lemmas.List.Elements.{All-weaker, All-contains, All-contains_itself}
use Rattle.dl_terms.proofs.MemberLemmas.{Contains-first, Contains-later, All-Contains}
use Rattle.dl_normal.specs.Weight.{total_weight}
use Rattle.dl_hier.specs.Predicates.{max_predicates}
use Rattle.dl_hier.proofs.MemberLemmas.{Contains-map, Contains-map_of}
use Rattle.dl_hier.proofs.QueryLemmas.{Any-of}
use Rattle.dl_row.specs.Lists.{last_where, first_some}
use Rattle.dl_row.specs.Rows.{Epoch, covering}
use Rattle.dl_epoch.specs.Known.{ArePredicatesFew, max_weight}
use Rattle.dl_epoch.specs.Covering.{Kept, epoch_in}
use Rattle.dl_core.specs.Held.{IsBookOf, IsSound}
use Rattle.dl_core.specs.History.{Load, Entry, version_of, axioms_at, signature_at}
use Rattle.dl_core.specs.Legal.{Reader, ReaderStandsFor, root_of}
use Rattle.dl_edits.specs.Names.{predicates}
use Rattle.dl_core.specs.Next.{Numbering, IsNumbering}
use Rattle.dl_core.specs.Root.{Root, IsLive, IsLoad, epochs, pin_in}
use Rattle.dl_core.specs.declared.book.Book.{Book}
use Rattle.dl_event.specs.declared.pin.Pin.{Pin}
use Rattle.dl_core.proofs.EpochLemmas.{some_none, some_some}
use Rattle.dl_edits.proofs.FewLemmas.{predicates_few}
use Rattle.dl_core.proofs.ReadLemmas.{pin_there}
use Rattle.dl_core.proofs.ReaderLemmas.{reader_reads}
use Rattle.dl_core.proofs.RunLemmas.{legal_stands}

-- the last item that passes a test passes it, and is there
pub last_is : {A : Type 0} (p : A → Bool) (xs : List A) (x : A) → last_where p xs ≡ Some x → (p x ≡ true) × Contains xs x
last_is p [] x e = absurd (some_none e)
last_is {A} p (y ∷ xs) x e = by (last_where p xs) (p y) refl e (last_is p xs x)
  where
    by : (o : Option A) (b : Bool) → p y ≡ b → first_some o (cond b (Some y) None) ≡ Some x
        → (o ≡ Some x → (p x ≡ true) × Contains xs x) → (p x ≡ true) × Contains (y ∷ xs) x
    by (Some z) b h e later = let r = later e in (r.0, Contains-later y x xs r.1)
    by None true h e later =
        (ap p (sym (some_some e)) ∙ h, subst (Contains (y ∷ xs)) (some_some e) (Contains-first y xs))
    by None false h e later = absurd (some_none e)

-- ---- the version of a pin

pub pin_within : (numbering : Numbering) (l : Load) (seen : List Entry) (reader : Reader) (v : ℕ) → IsNumbering numbering → IsLoad l
    → ReaderStandsFor numbering l seen reader → reader.pin ≡ Some v → (1 ≤ v) × (v ≤ version_of seen)
pin_within numbering l seen reader v numbers load s pin =
    let now = legal_stands numbering l seen numbers load s.legal in
    let p = pin_there (root_of numbering l seen).pins reader.stream v
    (now.pins.are reader.stream ∙ sym s.pin ∙ pin) in
    let range = All-Contains (λ (p : Pin). (1 ≤ p.version) × (p.version ≤ (root_of numbering l seen).version))
    (root_of numbering l seen).pins p.0 now.pins.versions p.1 in (
      subst (λ n. 1 ≤ n) p.2 range.0,
      subst (λ n. v ≤ n) now.version (subst (λ n. n ≤ (root_of numbering l seen).version) p.2 range.1),
    )

-- ---- the entry that covers it

pub pin_has_entry : (root : Root) (book : Book) (stream v : ℕ) → IsSound root → IsBookOf root book → pin_in root.pins stream ≡ Some v
    → Any (λ e. e.first ≤ v) book.epochs
pin_has_entry root book stream v sound of pin =
    let p = pin_there root.pins stream v pin in
    let reads = sound.stands.reads v (IsLive.pinned p.0 p.1 p.2) in
    let e = last_is (λ (e : Epoch). nat_le e.first v) (epochs root) reads.epoch reads.covers in
    let k = Contains-map epoch_in book.epochs reads.epoch (subst (λ es. Contains es reads.epoch) (sym of.epochs) e.1) in
    Any-of (λ (e : Kept). e.first ≤ v) book.epochs k.0 k.1
    (subst (λ (d : Epoch). d.first ≤ v) (sym k.2) (leb-true reads.epoch.first v e.0))

pub entry_reads : (numbering : Numbering) (l : Load) (seen : List Entry) (reader : Reader) (v : ℕ) → IsNumbering numbering → IsLoad l
    → ReaderStandsFor numbering l seen reader → reader.pin ≡ Some v → (book : Book) → IsBookOf reader.root book
    → (e : Epoch) → covering (map epoch_in book.epochs) v ≡ Some e → (e.axioms ≡ axioms_at l seen v) × (e.signature ≡ signature_at l seen v)
entry_reads numbering l seen reader v numbers load s pin book of e covers =
    let reads = reader_reads numbering l seen reader v numbers load s pin in
    let same : e ≡ reads.epoch = some_some (sym covers ∙ ap (λ es. covering es v) of.epochs ∙ reads.covers) in
    (ap (λ (d : Epoch). d.axioms) same ∙ reads.axioms_are, ap (λ (d : Epoch). d.signature) same ∙ reads.signature_is)

-- ---- the limits of all entries

-- what holds of each epoch of a root holds of each entry
each_entry : (P : Epoch → Type 0) (root : Root) (book : Book) → IsBookOf root book → All P (epochs root)
    → All (λ e. P (epoch_in e)) book.epochs
each_entry P root book of all =
    All-weaker (Contains book.epochs) (λ (e : Kept). P (epoch_in e))
    (λ e c. All-contains P (map epoch_in book.epochs) (epoch_in e) (subst (All P) (sym of.epochs) all)
    (Contains-map_of epoch_in book.epochs e c)) book.epochs (All-contains_itself book.epochs)

pub entries_light : (root : Root) (book : Book) → IsSound root → IsBookOf root book
    → All (λ e. total_weight e.epoch.axioms ≤ max_weight) book.epochs
entries_light root book sound of =
    each_entry (λ (e : Epoch). total_weight e.axioms ≤ max_weight) root book of sound.stands.epochs_are.weights

pub entries_few : (root : Root) (book : Book) → IsSound root → IsBookOf root book
    → All (λ e. ArePredicatesFew e.epoch.signature e.epoch.axioms) book.epochs
entries_few root book sound of =
    All-weaker (λ (e : Kept). predicates e.epoch.axioms e.epoch.signature ≤ max_predicates)
    (λ (e : Kept). ArePredicatesFew e.epoch.signature e.epoch.axioms)
    (λ (e : Kept). predicates_few e.epoch.signature e.epoch.axioms) book.epochs
    (each_entry (λ (e : Epoch). predicates e.axioms e.signature ≤ max_predicates) root book of
    sound.stands.epochs_are.predicates)
