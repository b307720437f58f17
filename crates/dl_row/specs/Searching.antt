-- Where a bound divides rows in order.
use Rattle.std.specs.Prelude.{◌≡◌, ℕ, ◌-◌, ◌<◌, ◌≤◌, true, false}
use Rattle.std.specs.Prelude.{List, [], ◌∷◌, length, filter, take, drop, slice_index_or}
use Rattle.std.specs.Ordering.{is_lt}
use Rattle.dl_row.specs.Rows.{row_cmp}
use Rattle.dl_row.specs.Shards.{is_among}
use Rattle.dl_row.specs.declared.row.Kind.{Kind}
use Rattle.dl_row.specs.declared.row.Row.{Row}

-- the rows before a place are less than a bound, and those from a second place on aren't
pub record Bounds (bound : Row) (rows : List Row) (low high : ℕ) : Type 0 where
  pub within : high ≤ length rows
  pub order : low ≤ high
  pub below : (k : ℕ) (d : Row) → k < low → is_lt (row_cmp (slice_index_or rows k d) bound) ≡ true
  pub from : (k : ℕ) (d : Row) → high ≤ k → k < length rows → is_lt (row_cmp (slice_index_or rows k d) bound) ≡ false

-- the rows before a place are less than a bound, and those from it on aren't
abbrev pub Divides : Row → List Row → ℕ → Type 0
Divides bound rows at = Bounds bound rows at at

-- no row of an epoch, a kind and a number is less than this one, and with these ends
abbrev pub least_with : ℕ → Kind → ℕ → ℕ → ℕ → Row
least_with epoch kind number s o =
    record { kind = kind; number = number; epoch = epoch; s = s; o = o; first = 0; last = 0 }

abbrev pub least_of : ℕ → Kind → ℕ → Row
least_of epoch kind number = least_with epoch kind number 0 0

-- the rows from a place on and before a second one
abbrev pub between : ℕ → ℕ → List Row → List Row
between low high rows = take (high - low) (drop low rows)

-- between two places stand the rows of an epoch and a kind whose number is in an interval
pub record IsRun (epoch : ℕ) (kind : Kind) (range : ℕ × ℕ) (rows : List Row) (low high : ℕ) : Type 0 where
  pub order : low ≤ high
  pub within : high ≤ length rows
  pub are : between low high rows ≡ filter (is_among epoch kind (range ∷ [])) rows
