-- Epochs that nothing needs any more. They are this project's own.
use Rattle.std.specs.Prelude.{ℕ, ◌-◌, Bool, false, not, ◌&&◌, ◌==◌, nat_le, nat_lt, List, map, filter, take, length}
use Rattle.std.specs.List.{list_any}
use Rattle.std.specs.declared.option.Option.{Option}
use Rattle.std.specs.declared.option.Option.TheVariants.{Some, None}
use Rattle.dl_row.specs.Rows.{Epoch, covering}
use Rattle.dl_epoch.specs.Covering.{Kept, epoch_in}

abbrev pub is_epoch : ℕ → Option Epoch → Bool
is_epoch id None = false
is_epoch id (Some e) = e.id == id

-- an epoch covers one of some versions
abbrev pub covers_one : List Epoch → List ℕ → Epoch → Bool
covers_one epochs versions e = list_any (λ v. is_epoch e.id (covering epochs v)) versions

-- an epoch that no row carries, and that covers no pinned version
abbrev pub is_dead : List Epoch → List ℕ → ℕ → Epoch → Bool
is_dead epochs pins rows e = (rows == 0) && not (covers_one epochs pins e)

-- all entries but the last
abbrev pub older : List Kept → List Kept
older entries = take (length entries - 1) entries

-- an entry whose epoch is dead, by the count of rows that it has
abbrev pub is_dead_entry : List Kept → List ℕ → Kept → Bool
is_dead_entry entries pins e = is_dead (map epoch_in entries) pins e.rows (epoch_in e)

-- the ids of the entries that aren't last and whose epochs are dead, in order
abbrev pub dead_ids : List Kept → List ℕ → List ℕ
dead_ids entries pins = map (λ e. e.epoch.id) (filter (is_dead_entry entries pins) (older entries))

-- one of some versions is from a first one on and before another one
abbrev pub has_between : ℕ → ℕ → List ℕ → Bool
has_between from to versions = list_any (λ v. nat_le from v && nat_lt v to) versions

-- an entry without rows, whose versions up to the next entry's first one have no pin
abbrev pub is_dead_before : ℕ → ℕ → ℕ → List ℕ → Bool
is_dead_before rows first next pins = (rows == 0) && not (has_between first next pins)
