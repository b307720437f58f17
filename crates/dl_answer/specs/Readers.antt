-- What a reader says of a version, and what stays while it fetches.
use Rattle.std.specs.Prelude.{◌≡◌, ℕ, List}
use Rattle.std.specs.declared.option.Option.TheVariants.{Some}
use Rattle.dl_terms.specs.declared.axiom.Fact.{Fact}
use Rattle.dl_row.specs.Rows.{covering}
use Rattle.dl_epoch.specs.Frozen.{Frozen, from_version}
use Rattle.dl_core.specs.History.{Load, Entry, facts_at}
use Rattle.dl_core.specs.Root.{Root, IsLoad, epochs}
use Rattle.dl_core.specs.Next.{Numbering, IsNumbering}
use Rattle.dl_core.specs.Legal.{Reader, SeesMore}

-- a version has these facts, by a load and a list of entries that a reader stands for
pub record HasFacts (Stands : Numbering → Load → List Entry → Type 0) (version : ℕ) (facts : List Fact)
    : Type 0 where
  pub numbering : Numbering
  pub load : Load
  pub seen : List Entry
  pub is_numbering : IsNumbering numbering
  pub is_load : IsLoad load
  pub stands : Stands numbering load seen
  pub are : facts_at load seen version ≡ facts

-- a reader after some fetches: stream, pin and number of shards stay, and where it stood for a list of entries, it
-- stands for one that begins with that
pub record HasFetched (Before : Numbering → Load → List Entry → Type 0) (before : Reader)
    (After : Numbering → Load → List Entry → Type 0) (after : Reader) : Type 0 where
  pub stream : after.stream ≡ before.stream
  pub pin : after.pin ≡ before.pin
  pub shards : after.root.shards ≡ before.root.shards
  pub seen : (numbering : Numbering) (l : Load) (seen : List Entry) → Before numbering l seen
      → SeesMore (After numbering l) seen

-- an epoch, from some version on, covers a version of a root
pub record Covers (root : Root) (version : ℕ) (e : Frozen) : Type 0 where
  pub first : ℕ
  pub covers : covering (epochs root) version ≡ Some (from_version first e)
