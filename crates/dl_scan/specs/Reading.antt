-- How the rows of one epoch are read: as classes, as roles, and as roles that are turned.
use Rattle.std.specs.Prelude.{ℕ, List, ◌++◌, map}
use Rattle.dl_row.specs.Shards.{scanned}
use Rattle.dl_row.specs.declared.row.Kind.{Kind}
use Rattle.dl_row.specs.declared.row.Kind.TheVariants as kind
use Rattle.dl_row.specs.declared.row.Row.{Row}
use Rattle.dl_epoch.specs.declared.numbers.Ranges.{Ranges}
use Rattle.dl_scan.specs.declared.reading.Reading.{Reading}
use Rattle.dl_scan.specs.declared.reading.Reading.TheVariants.{Members, Forward, Backward}

abbrev pub kind_of : Reading → Kind
kind_of Members = kind.Class
kind_of Forward = kind.Role
kind_of Backward = kind.Role

-- the pair that the ends of a row are read as: of a class its individual twice
abbrev pub pair_of : Reading → ℕ × ℕ → ℕ × ℕ
pair_of Members ends = (ends.0, ends.0)
pair_of Forward ends = ends
pair_of Backward ends = (ends.1, ends.0)

-- the pairs of the visible rows of an epoch whose numbers stand in some intervals
abbrev pub pairs_read : Reading → ℕ → List (ℕ × ℕ) → ℕ → List Row → List (ℕ × ℕ)
pairs_read how epoch ranges version rows = map (pair_of how) (scanned epoch (kind_of how) ranges version rows)

-- those of all the intervals that an epoch has for what is asked
abbrev pub all_read : ℕ → Ranges → ℕ → List Row → List (ℕ × ℕ)
all_read epoch ranges version rows =
    (pairs_read Members epoch ranges.classes version rows ++ pairs_read Forward epoch ranges.forward version rows)
    ++ pairs_read Backward epoch ranges.backward version rows
