-- The store of a load: its limits, and the reader that a query is asked over. Loads, limits and readers are this
-- project's own.
use Rattle.std.specs.Prelude.{◌≡◌, List, [], ◌∷◌}
use Rattle.std.specs.declared.option.Option.TheVariants.{Some, None}
use Rattle.dl_core.specs.History.{Load, Entry}
use Rattle.dl_core.specs.Root.{IsLoad}
use Rattle.dl_core.specs.Next.{Numbering, IsNumbering, load_refused}
use Rattle.dl_core.specs.Legal.{Reader, ReaderStandsFor}
use Rattle.dl_event.specs.declared.event.Event.TheVariants.{Pin}
use Rattle.dl_core.specs.declared.fault.LoadFault.{LoadFault}
use Rattle.dl_event.specs.declared.reply.Reply.TheVariants.{Pinned}
use Rattle.dl_run.specs.Stops.{stop_of_load}
use Rattle.dl_run.specs.declared.stop.Refusal.{Refusal}
use Rattle.dl_run.specs.declared.stop.Stop.{Stop}
use Rattle.dl_run.specs.declared.stop.Stop.TheVariants.{Refused, ReadFault, NoMemory}

-- a load within the limits of the store
abbrev pub IsWithinLimits : Load → Type 0
IsWithinLimits load = load_refused load ≡ None

-- what is wrong with a load: the first limit of the store that it passes, as it is refused
pub record IsLoadWrong (load : Load) (refusal : Refusal) : Type 0 where
  pub fault : LoadFault
  pub passes : load_refused load ≡ Some fault
  pub is : stop_of_load fault ≡ Refused refusal

-- ---- for private functions

-- the history in which stream 1 has a pin at version 1, and nothing else was done
abbrev pub pinned_once : List Entry
pinned_once = record { stream = 1; event = Pin; reply = Pinned 1 } ∷ []

-- a load is within the limits, and a reader stands for it with that history
pub record IsReaderOf (load : Load) (reader : Reader) : Type 0 where
  pub within : IsWithinLimits load
  pub is_load : IsLoad load
  pub numbering : Numbering
  pub numbers : IsNumbering numbering
  pub stands : ReaderStandsFor numbering load pinned_once reader
  pub pin : reader.pin ≡ Some 1

-- why a load has no store: a limit that it passes, or want of memory
abbrev pub IsStopOf : Load → Stop → Type 0
IsStopOf load (Refused refusal) = IsLoadWrong load refusal
IsStopOf load ReadFault = ⊥
IsStopOf load NoMemory = Unit {0}
