-- What the calls of a shard give, over its rows as a list in order.
use Rattle.std.specs.Prelude.{◌≡◌, ◌==◌, ℕ, ◌+◌, ◌*◌, Bool, ◌&&◌, nat_le, List, ◌++◌, map, filter, length}
use Rattle.std.specs.List.{list_any}
use Rattle.dl_row.specs.Rows.{kind_number, open_end, visible}
use Rattle.dl_row.specs.declared.row.Kind.{Kind}
use Rattle.dl_row.specs.declared.row.Row.{Row}

-- how many rows a shard has at most
abbrev pub max_rows : ℕ
max_rows = 4194304

-- a row of an epoch, a kind and a number, with its ends
abbrev pub is_at : ℕ → Kind → ℕ → ℕ → ℕ → Row → Bool
is_at epoch kind number s o r =
    (r.epoch == epoch) && ((kind_number r.kind == kind_number kind)
    && ((r.number == number) && ((r.s == s) && (r.o == o))))

-- an open row with these fields
abbrev pub is_open_at : ℕ → Kind → ℕ → ℕ → ℕ → Row → Bool
is_open_at epoch kind number s o r = is_at epoch kind number s o r && (r.last == open_end)

-- a number stands in one of some intervals, both ends included
abbrev pub is_within : List (ℕ × ℕ) → ℕ → Bool
is_within ranges n = list_any (λ range. nat_le range.0 n && nat_le n range.1) ranges

-- a row of an epoch and a kind whose number stands in one of some intervals
abbrev pub is_among : ℕ → Kind → List (ℕ × ℕ) → Row → Bool
is_among epoch kind ranges r =
    (r.epoch == epoch) && ((kind_number r.kind == kind_number kind) && is_within ranges r.number)

abbrev pub ends_of : Row → ℕ × ℕ
ends_of r = (r.s, r.o)

-- the ends of the rows that a scan finds, in order
abbrev pub scanned : ℕ → Kind → List (ℕ × ℕ) → ℕ → List Row → List (ℕ × ℕ)
scanned epoch kind ranges version rows =
    map ends_of (filter (visible version) (filter (is_among epoch kind ranges) rows))

-- how many rows a scan looks at, at most: each of those whose epoch, kind and number are asked, and for each interval
-- as many as two binary searches do, where the count of rows has so many digits
abbrev pub most_steps : ℕ → Kind → List (ℕ × ℕ) → ℕ → List Row → ℕ
most_steps epoch kind ranges digits rows =
    length (filter (is_among epoch kind ranges) rows) + length ranges * (2 * digits)

-- a list got the first of some items at its end, and not all where memory failed
pub record AddsSome {A : Type 0} (old new items : List A) : Type 0 where
  pub added : List A
  pub rest : List A
  pub are : items ≡ added ++ rest
  pub is : new ≡ old ++ added
