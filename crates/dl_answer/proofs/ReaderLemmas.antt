-- What stays while a reader fetches, and what is read of its shards.
use Rattle.std.proofs.Common.{◌≡◌, ℕ, List, Some, refl, ◌∙◌}
use Rattle.dl_terms.specs.declared.axiom.Axiom.{Axiom}
use Rattle.dl_terms.specs.declared.axiom.Fact.{Fact}
use Rattle.dl_hier.specs.Hierarchy.{Hierarchy}
use Rattle.dl_core.specs.History.{Load, Entry}
use Rattle.dl_core.specs.Next.{Numbering}
use Rattle.dl_core.specs.Legal.{Reader, ReaderStandsFor, SeesMore, IsFetch}
use Rattle.dl_core.proofs.GrowthLemmas.{begins_itself, begins_further, facts_stay}
use Rattle.dl_core.proofs.PinnedEpochLemmas.{pin_within}
use Rattle.dl_answer.specs.Kept.{AreKept}
use Rattle.dl_answer.specs.Readers.{HasFacts, HasFetched}
use Rattle.dl_answer.specs.Searches.{AreRead, GoesOn}
use Rattle.dl_answer.specs.declared.slots.KeptLists.{KeptLists}

-- ---- fetches

pub no_fetch : (S : Numbering → Load → List Entry → Type 0) (r : Reader) → HasFetched S r S r
no_fetch S r = record {
  stream = refl;
  pin = refl;
  shards = refl;
  seen = λ numbering l seen stands. record { seen = seen; begins = begins_itself seen; stands = stands };
}

pub one_fetch : (S T : Numbering → Load → List Entry → Type 0) (r s : Reader) (i : ℕ) → IsFetch i r s
    → ((numbering : Numbering) (l : Load) (seen : List Entry) → S numbering l seen → SeesMore (T numbering l) seen)
    → HasFetched S r T s
one_fetch S T r s i fetch seen =
    record { stream = fetch.stream; pin = fetch.pin; shards = fetch.shards; seen = seen }

pub more_fetched : {S T U : Numbering → Load → List Entry → Type 0} {r s u : Reader} → HasFetched S r T s
    → HasFetched T s U u → HasFetched S r U u
more_fetched one two = record {
  stream = two.stream ∙ one.stream;
  pin = two.pin ∙ one.pin;
  shards = two.shards ∙ one.shards;
  seen = λ numbering l seen stands.
      let a = one.seen numbering l seen stands in
      let b = two.seen numbering l a.seen a.stands in
      record { seen = b.seen; begins = begins_further seen a.seen b.seen a.begins b.begins; stands = b.stands };
}

-- what a pinned version has, it has after fetches
pub facts_kept : {S T : Numbering → Load → List Entry → Type 0} {r s : Reader}
    → ((numbering : Numbering) (l : Load) (seen : List Entry) → S numbering l seen → ReaderStandsFor numbering l seen r)
    → HasFetched S r T s → (version : ℕ) → r.pin ≡ Some version → (facts : List Fact) → HasFacts S version facts
    → HasFacts T version facts
facts_kept {S} {T} {r} law fetched version pin facts has =
    let more = fetched.seen has.numbering has.load has.seen has.stands in
    let within = pin_within has.numbering has.load has.seen r version has.is_numbering has.is_load
    (law has.numbering has.load has.seen has.stands) pin in
    record {
      numbering = has.numbering;
      load = has.load;
      seen = more.seen;
      is_numbering = has.is_numbering;
      is_load = has.is_load;
      stands = more.stands;
      are = facts_stay has.load has.seen more.seen version more.begins within.1 ∙ has.are;
    }

-- ---- with lists that are kept

-- no fetch, and other lists
pub goes_keeping : (version : ℕ) (h : Hierarchy) (S : Numbering → Load → List Entry → Type 0) (r : Reader)
    (old new : KeptLists) → ((axioms : List Axiom) (facts : List Fact) → AreKept axioms facts old
    → AreKept axioms facts new) → GoesOn version h S r old S r new
goes_keeping version h S r old new keeps = record {
  fetched = no_fetch S r;
  stays = λ axioms facts read. record { has = read.has; behind = read.behind; kept = keeps axioms facts read.kept };
}

pub goes_nowhere : (version : ℕ) (h : Hierarchy) (S : Numbering → Load → List Entry → Type 0) (r : Reader)
    (kept : KeptLists) → GoesOn version h S r kept S r kept
goes_nowhere version h S r kept = goes_keeping version h S r kept kept (λ axioms facts are. are)

-- fetches, and the same lists
pub goes_fetching : {S T : Numbering → Load → List Entry → Type 0} {r s : Reader} (h : Hierarchy) (kept : KeptLists)
    → ((numbering : Numbering) (l : Load) (seen : List Entry) → S numbering l seen → ReaderStandsFor numbering l seen r)
    → (version : ℕ) → r.pin ≡ Some version → HasFetched S r T s → GoesOn version h S r kept T s kept
goes_fetching h kept law version pin fetched = record {
  fetched = fetched;
  stays = λ axioms facts read. record {
    has = facts_kept law fetched version pin facts read.has;
    behind = read.behind;
    kept = read.kept;
  };
}

pub goes_further : {version : ℕ} {h : Hierarchy} {S T U : Numbering → Load → List Entry → Type 0} {r s u : Reader}
    {k l m : KeptLists} → GoesOn version h S r k T s l → GoesOn version h T s l U u m → GoesOn version h S r k U u m
goes_further one two = record {
  fetched = more_fetched one.fetched two.fetched;
  stays = λ axioms facts read. two.stays axioms facts (one.stays axioms facts read);
}

-- and then other lists, by what was read
pub goes_and_keeps : {version : ℕ} {h : Hierarchy} {S T : Numbering → Load → List Entry → Type 0} {r s : Reader}
    {k l : KeptLists} (m : KeptLists) → GoesOn version h S r k T s l
    → ((axioms : List Axiom) (facts : List Fact) → AreRead S version h k axioms facts → AreKept axioms facts l
    → AreKept axioms facts m) → GoesOn version h S r k T s m
goes_and_keeps m goes keeps = record {
  fetched = goes.fetched;
  stays = λ axioms facts read.
      let now = goes.stays axioms facts read in
      record { has = now.has; behind = now.behind; kept = keeps axioms facts read now.kept };
}
