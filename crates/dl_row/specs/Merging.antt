-- A row that is less than another one, at a place of a list.
use Rattle.std.specs.Prelude.{◌≡◌, ◌≢◌, ℕ, ◌<◌, true, false, List, length, slice_index_or}
use Rattle.std.specs.Ordering.{is_lt}
use Rattle.dl_row.specs.Rows.{row_cmp}
use Rattle.dl_row.specs.declared.row.Row.{Row}

-- there is a row at the place, and it is less
pub record IsLessAt (rows : List Row) (at : ℕ) (row : Row) : Type 0 where
  pub inside : at < length rows
  pub less : (d : Row) → is_lt (row_cmp (slice_index_or rows at d) row) ≡ true

-- there is none, or it isn't less
pub record IsNotLessAt (rows : List Row) (at : ℕ) (row : Row) : Type 0 where
  pub not_less : (d : Row) → at < length rows → is_lt (row_cmp (slice_index_or rows at d) row) ≡ false

-- the place at an index of some places is a number
pub record HasAt (places : List ℕ) (place i : ℕ) : Type 0 where
  pub inside : place < length places
  pub is : (d : ℕ) → slice_index_or places place d ≡ i

-- there is none, or it isn't
pub record HasNotAt (places : List ℕ) (place i : ℕ) : Type 0 where
  pub is_not : (d : ℕ) → place < length places → slice_index_or places place d ≢ i
