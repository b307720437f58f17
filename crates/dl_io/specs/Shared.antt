-- Counts of faults by name in fixed room: names with one checksum share a count. The checksum is this project's own.
use Rattle.std.specs.Prelude.{ℕ, ◌+◌, ◌*◌, ◌%◌, List, fold, slice_index, slice_set}
use Rattle.dl_io.specs.Count.{raised_count}

-- the number, below 256, of the count in which a name's faults are counted
abbrev pub checksum : List ℕ → ℕ
checksum name = fold (λ sum byte. (sum * 31 % 256 + byte) % 256) 0 name

-- the count that a name has in this list
abbrev pub count_of : List ℕ → List ℕ → ℕ
count_of counts name = slice_index counts (checksum name)

-- the counts after one more fault in this one
abbrev pub raised_at : List ℕ → ℕ → List ℕ
raised_at counts at = slice_set counts at (raised_count (slice_index counts at))

-- the counts after one more fault of this name
abbrev pub raised_for : List ℕ → List ℕ → List ℕ
raised_for name counts = raised_at counts (checksum name)
