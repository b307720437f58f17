-- Rows of bits in words of 64, the lowest bit first.
use Rattle.std.specs.Prelude.{ℕ, ◌/◌, ◌%◌, Bool, List, nat_eq, slice_index_or}
use Rattle.std.specs.Int.{bit_at}

-- a row has the bit of a number; past its end it has none
abbrev pub row_has : List ℕ → ℕ → Bool
row_has row i = nat_eq (bit_at (slice_index_or row (i / 64) 0) (i % 64)) 1
