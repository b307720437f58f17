-- Which names pass a sieve.
use Rattle.std.specs.Prelude.{ℕ, ◌%◌, Bool, true, ◌==◌, List, slice_index_or}

-- the mark of the remainder of a name says whether it passes; where there is no mark for it, it does
abbrev pub passes : List Bool → ℕ → Bool
passes marks name = slice_index_or marks (name % 65536) true

-- the first name of a pair passes
abbrev pub passes_first : List Bool → ℕ × ℕ → Bool
passes_first marks p = passes marks p.0

-- a name has the remainder of the first name of a pair
abbrev pub has_remainder : ℕ → ℕ × ℕ → Bool
has_remainder name p = name % 65536 == p.0 % 65536
