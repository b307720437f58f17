-- The entries of epochs, and the one that covers a version.
use Rattle.std.specs.Prelude.{ℕ, ◌<◌, ◌≤◌, List, length, slice_index_or}
use Rattle.std.specs.List.{AllPairs}
use Rattle.std.specs.Arc.{arc_value}
use Rattle.dl_row.specs.Rows.{Epoch}
use Rattle.dl_epoch.specs.Frozen.{Frozen, from_version}
use Rattle.dl_epoch.specs.declared.entry.Entry.{Entry}

-- an entry as clauses see it: an epoch, the first version that it covers, and how many rows carry it
pub record Kept : Type 0 where
  pub epoch : Frozen
  pub first : ℕ
  pub rows : ℕ

abbrev pub kept : Entry → Kept
kept e = record { epoch = arc_value e.epoch; first = e.first; rows = e.rows }

-- the epoch of rows that an entry has
abbrev pub epoch_in : Kept → Epoch
epoch_in e = from_version e.first e.epoch

-- ids and first versions ascend strictly
pub record AreEntries (entries : List Kept) : Type 0 where
  pub ids : AllPairs (λ d e. d.epoch.id < e.epoch.id) entries
  pub firsts : AllPairs (λ d e. d.first < e.first) entries

-- the place of the last entry that begins at a version or before
pub record CoversAt (entries : List Kept) (version place : ℕ) : Type 0 where
  pub inside : place < length entries
  pub begins : (d : Kept) → (slice_index_or entries place d).first ≤ version
  pub last : (k : ℕ) (d : Kept) → place < k → k < length entries → version < (slice_index_or entries k d).first
