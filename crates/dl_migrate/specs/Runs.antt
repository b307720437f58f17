-- Rows of a list, one after another, that carry one epoch.
use Rattle.std.specs.Prelude.{◌≡◌, ◌≢◌, ℕ, ◌<◌, ◌≤◌, List, length, slice_index_or}
use Rattle.dl_row.specs.declared.row.Row.{Row}

-- the rows from a place on and before another one carry one epoch
pub record CarryOne (rows : List Row) (from to : ℕ) : Type 0 where
  pub begins : from < to
  pub within : to ≤ length rows
  pub same : (k : ℕ) (d : Row) → from ≤ k → k < to
      → (slice_index_or rows k d).epoch ≡ (slice_index_or rows from d).epoch

-- and the row there, if there is one, carries another
pub record IsRun (rows : List Row) (from to : ℕ) : Type 0 where
  pub carry : CarryOne rows from to
  pub ends : (d : Row) → to < length rows → (slice_index_or rows to d).epoch ≢ (slice_index_or rows from d).epoch
