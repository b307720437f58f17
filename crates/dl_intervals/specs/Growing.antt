-- How an interval list grows at its end, one interval after another.
use Rattle.std.specs.Prelude.{ℕ, ◌<◌, ◌≤◌, ◌^◌, ◌↔◌, ◌⊎◌, List, take, All, length, slice_index_or}
use Rattle.dl_intervals.specs.Intervals.{Interval, IsWithin, Holds, IsIntervalList, EndBelow}

-- every interval of the list begins at the number or before it
abbrev pub BeginBy : ℕ → List Interval → Type 0
BeginBy n is = All (λ i. i.0 ≤ n) is

-- the new list holds the numbers of the old one and of the interval, and each of its intervals begins no later
-- than that one
pub record Adds (old : List Interval) (next : Interval) (new : List Interval) : Type 0 where
  pub sorted : IsIntervalList new
  pub small : EndBelow (2 ^ 31) new
  pub begins : BeginBy next.0 new
  pub numbers : (n : ℕ) → Holds new n ↔ (Holds old n ⊎ IsWithin n next)

-- the list holds the numbers of the first i intervals of one list and of the first j of the other, and begins
-- no later than what is left of the two
pub record Merges
    (left : List Interval) (i : ℕ) (right : List Interval) (j : ℕ) (is : List Interval)
    : Type 0 where
  pub sorted : IsIntervalList is
  pub small : EndBelow (2 ^ 31) is
  pub before_left : (d : Interval) → i < length left → BeginBy (slice_index_or left i d).0 is
  pub before_right : (d : Interval) → j < length right → BeginBy (slice_index_or right j d).0 is
  pub numbers : (n : ℕ) → Holds is n ↔ (Holds (take i left) n ⊎ Holds (take j right) n)

-- there is an interval at i of the one list, and that at j of the other, if there is one, doesn't begin before it
pub record IsNext (xs : List Interval) (i : ℕ) (ys : List Interval) (j : ℕ) : Type 0 where
  pub inside : i < length xs
  pub first : (d e : Interval) → j < length ys
      → (slice_index_or xs i d).0 ≤ (slice_index_or ys j e).0
