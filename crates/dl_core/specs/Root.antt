-- A root of the store, and when it stands for a history. Roots and pins are this project's own.
use Rattle.std.specs.Prelude.{◌≡◌, ℕ, suc, ◌<◌, ◌≤◌, ◌⊎◌, ◌%◌, Bool, true, cond, ◌==◌, List, [], ◌∷◌, ◌++◌, length}
use Rattle.std.specs.List.{All, AllByRecursion, Contains, filter}
use Rattle.std.specs.declared.option.Option.{Option}
use Rattle.std.specs.declared.option.Option.TheVariants.{Some, None}
use Rattle.std.specs.Ordering.{nat_cmp}
use Rattle.dl_terms.specs.Order.{fact_cmp}
use Rattle.dl_terms.specs.declared.axiom.Axiom.{Axiom}
use Rattle.dl_terms.specs.declared.axiom.Fact.{Fact}
use Rattle.dl_terms.specs.declared.axiom.Fact.TheVariants.{Is, Link}
use Rattle.dl_terms.specs.declared.axiom.Signature.{Signature}
use Rattle.dl_row.specs.Lists.{count, InOrder, Ascends}
use Rattle.dl_edits.specs.Sets.{has, IsOnce}
use Rattle.dl_edits.specs.Names.{predicates}
use Rattle.dl_edits.specs.Signatures.{HasEachOnce, IsPart, AreKnown}
use Rattle.dl_normal.specs.Weight.{total_weight}
use Rattle.dl_core.specs.History.{Load, Entry, version_of, axioms_at, facts_at, signature_at, pin_of}
use Rattle.dl_row.specs.Rows.{Epoch, fact_of, rows_for, covering, row_cmp, open_end}
use Rattle.dl_row.specs.Shards.{max_rows}
use Rattle.dl_migrate.specs.Tallies.{carries}
use Rattle.dl_epoch.specs.Known.{max_weight}
use Rattle.dl_hier.specs.Predicates.{max_predicates}
use Rattle.dl_row.specs.declared.row.Kind.{Kind}
use Rattle.dl_row.specs.declared.row.Kind.TheVariants.{Class, Role}
use Rattle.dl_row.specs.declared.row.Row.{Row}
use Rattle.dl_event.specs.declared.pin.Pin.{Pin}

-- how many epochs are kept at most
abbrev pub max_epochs : ℕ
max_epochs = 64

-- the last version that may be followed by another
abbrev pub max_version : ℕ
max_version = 2147483648

-- a root. Its rows are in one list, ascending; a shard has those that belong to it, in that order
pub record Root : Type 0 where
  pub version : ℕ
  pub older : List Epoch
  pub current : Epoch
  pub pins : List Pin
  pub shards : ℕ
  pub rows : List Row

-- the kept epochs, in order
abbrev pub epochs : Root → List Epoch
epochs root = root.older ++ root.current ∷ []

-- a row stands in the shard whose number is `s` modulo the number of shards
abbrev pub stands_in : ℕ → ℕ → Row → Bool
stands_in shards i r = r.s % shards == i

-- the rows of a shard, in order
abbrev pub shard : Root → ℕ → List Row
shard root i = filter (stands_in root.shards i) root.rows

-- shards whose rows are their own, from a number on
abbrev pub AreInShards : ℕ → ℕ → List (List Row) → Type 0
AreInShards n i [] = Unit {0}
AreInShards n i (rows ∷ shards) = AllByRecursion (λ r. r.s % n ≡ i) rows × AreInShards n (suc i) shards

-- the book counts the rows, and those of each epoch
abbrev pub rows_in : Root → Epoch → ℕ
rows_in root e = count (carries e.id) root.rows

-- the pin of a stream among pins
abbrev pub pin_in : List Pin → ℕ → Option ℕ
pin_in [] stream = None
pin_in (p ∷ pins) stream = cond (p.stream == stream) (Some p.version) (pin_in pins stream)

-- the versions that have to stay: the current one, and those that are pinned
pub data IsLive (root : Root) (v : ℕ) : Type 0 where
  current : root.version ≡ v → IsLive root v
  pinned : (p : Pin) → Contains root.pins p → p.version ≡ v → IsLive root v

-- an epoch is in use: it is the current one, a row carries it, or it covers a pinned version
pub data IsInUse (root : Root) (e : Epoch) : Type 0 where
  is_current : root.current.id ≡ e.id → IsInUse root e
  by_row : (r : Row) → Contains root.rows r → r.epoch ≡ e.id → IsInUse root e
  by_pin : (p : Pin) → Contains root.pins p → covering (epochs root) p.version ≡ Some e → IsInUse root e

-- ---- a root stands for a history

-- the numbering of an epoch has the names of its signature, each once
pub record IsNumbered (e : Epoch) : Type 0 where
  pub classes : (name : ℕ) → has nat_cmp e.classes name ≡ has nat_cmp e.signature.classes name
  pub roles : (name : ℕ) → has nat_cmp e.roles name ≡ has nat_cmp e.signature.roles name
  pub classes_once : IsOnce nat_cmp e.classes
  pub roles_once : IsOnce nat_cmp e.roles
  pub signature : HasEachOnce e.signature

-- the ends of a class row are one
abbrev pub EndsAgree : Kind → ℕ → ℕ → Type 0
EndsAgree Class s o = o ≡ s
EndsAgree Role s o = Unit {0}

-- a row of a root: it stands for a fact, and is visible from some version to the current one at most, or is open
pub record IsRowAt (es : List Epoch) (version : ℕ) (r : Row) : Type 0 where
  pub fact : Fact
  pub stands : fact_of es r ≡ Some fact
  pub begins : r.first ≤ version
  pub not_empty : r.first < r.last
  pub ends : (r.last ≡ open_end) ⊎ (r.last ≤ version)
  pub ends_agree : EndsAgree r.kind r.s r.o

-- what a root's epochs are, whatever the history
pub record AreEpochs (older : List Epoch) (current : Epoch) (version : ℕ) : Type 0 where
  pub numbered : All IsNumbered (older ++ current ∷ [])
  pub parts : All (λ e. IsPart e.signature current.signature) (older ++ current ∷ [])
  pub ids : InOrder (λ d e. d.id < e.id) (older ++ current ∷ [])
  pub firsts : InOrder (λ d e. d.first < e.first) (older ++ current ∷ [])
  pub last_id : current.id ≤ version
  pub last_first : current.first ≤ version
  pub weights : All (λ e. total_weight e.axioms ≤ max_weight) (older ++ current ∷ [])
  pub predicates : All (λ e. predicates e.axioms e.signature ≤ max_predicates) (older ++ current ∷ [])
  pub kept : length (older ++ current ∷ []) ≤ max_epochs

-- what its rows are
pub record AreRows (es : List Epoch) (version : ℕ) (rows : List Row) : Type 0 where
  pub each : All (IsRowAt es version) rows
  pub ascending : Ascends row_cmp rows
  pub once : (v : ℕ) → v ≤ version → (f : Fact) → rows_for es rows v f ≤ 1
  pub kept : length rows ≤ max_rows

-- what its pins are: those of the history, one at most for each stream
pub record ArePins (history : List Entry) (pins : List Pin) (version : ℕ) : Type 0 where
  pub are : (stream : ℕ) → pin_in pins stream ≡ pin_of history stream
  pub once : (stream : ℕ) → count (λ p. p.stream == stream) pins ≤ 1
  pub versions : All (λ p. (1 ≤ p.version) × (p.version ≤ version)) pins

-- the rows say what a version has: each fact by exactly one row, and no other
abbrev pub RowsSay : List Epoch → List Row → ℕ → List Fact → Type 0
RowsSay es rows v facts = (f : Fact) → rows_for es rows v f ≡ cond (has fact_cmp facts f) 1 0

-- what is read at a version: the entry that covers it has exactly these axioms and this signature, and the rows say
-- these facts
pub record ReadsAs (es : List Epoch) (rows : List Row) (v : ℕ) (axioms : List Axiom) (signature : Signature)
    (facts : List Fact) : Type 0 where
  pub epoch : Epoch
  pub covers : covering es v ≡ Some epoch
  pub axioms_are : epoch.axioms ≡ axioms
  pub signature_is : epoch.signature ≡ signature
  pub facts_are : RowsSay es rows v facts

-- a root stands for a history from a load
pub record StandsFor (l : Load) (history : List Entry) (root : Root) : Type 0 where
  pub version : root.version ≡ version_of history
  pub shards : (root.shards ≡ l.shards) × (1 ≤ root.shards) × (root.shards ≤ 64)
  pub pins : ArePins history root.pins root.version
  pub reads : (v : ℕ) → IsLive root v
      → ReadsAs (epochs root) root.rows v (axioms_at l history v) (signature_at l history v) (facts_at l history v)
  pub epochs_are : AreEpochs root.older root.current root.version
  pub rows_are : AreRows (epochs root) root.version root.rows

-- a load: sets, whose predicates are in the signature, within the limits
pub record IsLoad (l : Load) : Type 0 where
  pub facts : IsOnce fact_cmp l.facts
  pub signature : HasEachOnce l.signature
  pub known : AreKnown l.signature l.facts
  pub weights : total_weight l.axioms ≤ max_weight
  pub few : predicates l.axioms l.signature ≤ max_predicates
  pub kept : length l.facts ≤ max_rows
  pub shards : (1 ≤ l.shards) × (l.shards ≤ 64)
