-- Numbers that stand beside what has them. They are this project's own.
use Rattle.std.specs.Prelude.{◌≡◌, ℕ, ◌<◌, ◌≤◌, List, length, get_or, Contains}
use Rattle.std.specs.List.Sorted.{IsStrictlyIncreasing}
use Rattle.dl_reach.specs.Digraph.{max_nodes}
use Rattle.dl_numbers.specs.Numbers.{HasNumber}
use Rattle.dl_numbers.specs.Runs.{AreNumbered}

-- for each of some places, in number order, its number: it stands at that place
pub record AreAtPlaces (places numbers : List ℕ) : Type 0 where
  pub count : length numbers ≡ length places
  pub each : (place : ℕ) → Contains places place → HasNumber places place (get_or numbers place 0)

-- names that ascend, the number of each beside it, and the same names in number order
pub record AreBeside (names numbers numbered : List ℕ) : Type 0 where
  pub ascending : IsStrictlyIncreasing names
  pub few : length numbered ≤ max_nodes
  pub count : length numbers ≡ length names
  pub each : (k : ℕ) → k < length names → HasNumber numbered (get_or names k 0) (get_or numbers k 0)
  pub are : AreNumbered names numbered
