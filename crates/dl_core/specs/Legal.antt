-- Legal histories and readers. They are this project's own.
use Rattle.std.specs.Prelude.{◌≡◌, ℕ, List, [], ◌∷◌, ◌++◌}
use Rattle.std.specs.Option.{option_map}
use Rattle.std.specs.declared.option.Option.{Option}
use Rattle.dl_row.specs.declared.row.Row.{Row}
use Rattle.dl_core.specs.History.{Load, Entry, pin_of}
use Rattle.dl_core.specs.Root.{Root, shard, pin_in}
use Rattle.dl_core.specs.Next.{Numbering, MeetsCondition, next, loaded}
use Rattle.dl_event.specs.declared.pin.Pin.{Pin}
use Rattle.dl_event.specs.declared.event.Event.{Event}

-- what an entry's stream asked for
abbrev pub asked : Entry → ℕ × Event
asked e = (e.stream, e.event)

-- the root after some entries
abbrev pub root_from : Numbering → Root → List Entry → Root
root_from numbering root [] = root
root_from numbering root (e ∷ history) = root_from numbering (next numbering root e.stream e.event).0 history

-- their replies are those of the next roots, one after the other, and each event meets the condition of a step
abbrev pub IsLegalFrom : Numbering → Root → List Entry → Type 0
IsLegalFrom numbering root [] = Unit {0}
IsLegalFrom numbering root (e ∷ history) =
    MeetsCondition root e.event × ((next numbering root e.stream e.event).1 ≡ e.reply)
    × IsLegalFrom numbering (next numbering root e.stream e.event).0 history

-- a history that is legal from a load
abbrev pub IsLegal : Numbering → Load → List Entry → Type 0
IsLegal numbering l history = IsLegalFrom numbering (loaded numbering l) history

-- the root after it
abbrev pub root_of : Numbering → Load → List Entry → Root
root_of numbering l history = root_from numbering (loaded numbering l) history

-- ---- a reader

-- one list begins with another
abbrev pub Begins : List Entry → List Entry → Type 0
Begins seen longer = (more : List Entry) × (longer ≡ seen ++ more)

-- what a reader holds: a root, its stream and its pin, and the shard that it fetched last
pub record Reader : Type 0 where
  pub root : Root
  pub stream : ℕ
  pub pin : Option ℕ
  pub at : ℕ

-- the rows that it lends
abbrev pub lent : Reader → List Row
lent reader = shard reader.root reader.at

-- a reader stands for a load and a list of entries that it has seen
pub record ReaderStandsFor (numbering : Numbering) (l : Load) (seen : List Entry) (reader : Reader) : Type 0 where
  pub legal : IsLegal numbering l seen
  pub root : reader.root ≡ root_of numbering l seen
  pub pin : reader.pin ≡ pin_of seen reader.stream

-- the reader of a stream that looks at a root alone
abbrev pub plain_reader : Root → ℕ → ℕ → Reader
plain_reader root stream at = record { root = root; stream = stream; pin = pin_in root.pins stream; at = at }

-- the pin of a reader, with its stream
abbrev pub pin_shown : Reader → Option Pin
pin_shown reader = option_map (λ version. record { stream = reader.stream; version = version }) reader.pin

-- a fetch of a shard: stream, pin and number of shards stay
pub record IsFetch (i : ℕ) (old new : Reader) : Type 0 where
  pub stream : new.stream ≡ old.stream
  pub pin : new.pin ≡ old.pin
  pub shards : new.root.shards ≡ old.root.shards
  pub at : new.at ≡ i

-- a reader, which stands for some lists of entries, stands for one that begins with what was seen before
pub record SeesMore (Stands : List Entry → Type 0) (before : List Entry) : Type 0 where
  pub seen : List Entry
  pub begins : Begins before seen
  pub stands : Stands seen
