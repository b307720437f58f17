-- Intervals of numbers, and lists of them, as the semantic index of Rodríguez-Muro and Calvanese keeps the
-- numbers below a predicate.
use Rattle.std.specs.Prelude.{ℕ, ◌+◌, ◌<◌, ◌≤◌, ◌↔◌, List, length, All, Any, AllPairs}

-- an interval: its first number and its last, both in it
abbrev pub Interval : Type 0
Interval = ℕ × ℕ

-- the number stands in the interval, both ends included
abbrev pub IsWithin : ℕ → Interval → Type 0
IsWithin n i = (i.0 ≤ n) × (n ≤ i.1)

-- the number stands in some interval of the list
abbrev pub Holds : List Interval → ℕ → Type 0
Holds is n = Any (IsWithin n) is

-- sorted, disjoint and not touching: no interval is empty, and between an interval and any later one a number
-- is left out
pub record IsIntervalList (is : List Interval) : Type 0 where
  pub inhabited : All (λ i. i.0 ≤ i.1) is
  pub apart : AllPairs (λ i j. i.1 + 1 < j.0) is

-- each interval ends below the limit
abbrev pub EndBelow : ℕ → List Interval → Type 0
EndBelow limit is = All (λ i. i.1 < limit) is

-- the two lists hold the same numbers
abbrev pub HoldSame : List Interval → List Interval → Type 0
HoldSame is js = (n : ℕ) → Holds is n ↔ Holds js n

-- no list of intervals that holds the same numbers is shorter
abbrev pub IsFewest : List Interval → Type 0
IsFewest is = (js : List Interval) → HoldSame is js → length is ≤ length js
