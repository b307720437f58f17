-- The list of the marked nodes.
use Rattle.std.proofs.Common.{ℕ, ◌<◌, Bool, List, All, Contains}
use Rattle.std.specs.List.Sorted.{IsStrictlyIncreasing}
use Rattle.dl_reach.specs.Search.{IsMarked}

-- the list has the marked nodes below n, ascending
pub record ListsMarked (seen : List Bool) (n : ℕ) (nodes : List ℕ) : Type 0 where
  pub rising : IsStrictlyIncreasing nodes
  pub below : All (λ node. node < n) nodes
  pub listed : (node : ℕ) → Contains nodes node → IsMarked seen node
  pub complete : (node : ℕ) → node < n → IsMarked seen node → Contains nodes node
