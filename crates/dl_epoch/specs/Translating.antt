-- Names as numbers of an epoch.
use Rattle.std.specs.Prelude.{◌≡◌, ℕ, ◌↔◌, List, length}
use Rattle.std.specs.List.{Contains}
use Rattle.dl_intervals.specs.Intervals.{Holds, IsIntervalList}
use Rattle.dl_hier.specs.Below.{AreThose}
use Rattle.dl_numbers.specs.Numbers.{HasNumber}
use Rattle.dl_numbers.specs.Runs.{IsForest}

-- a number that one of some names has
pub record IsNumberOf (numbered members : List ℕ) (number : ℕ) : Type 0 where
  pub name : ℕ
  pub member : Contains members name
  pub has : HasNumber numbered name number

-- the intervals of exactly the numbers of those names that have one
pub record AreNumbersOf (numbered members : List ℕ) (ranges : List (ℕ × ℕ)) : Type 0 where
  pub sorted : IsIntervalList ranges
  pub exact : (n : ℕ) → Holds ranges n ↔ IsNumberOf numbered members n

-- where the order is a forest, what is below one of the names is one interval (the semantic index of Rodríguez-Muro and
-- Calvanese)
abbrev pub IsOneInForest : List ℕ → (ℕ → ℕ → Type 0) → List ℕ → List (ℕ × ℕ) → Type 0
IsOneInForest names Below members ranges =
    IsForest names Below → (name : ℕ) → Contains names name → AreThose names (λ a. Below a name) members
    → length ranges ≡ 1
