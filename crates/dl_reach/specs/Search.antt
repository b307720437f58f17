-- The state of a search: which nodes are marked, and the nodes found so far in the order of
-- finding.
use Rattle.std.specs.Prelude.{◌≡◌, ℕ, ◌⊎◌, Bool, true, false, List, length, take, All, Contains, count_by, slice_index_or}

-- the node is marked
abbrev pub IsMarked : List Bool → ℕ → Type 0
IsMarked seen node = slice_index_or seen node false ≡ true

-- the found nodes are the marked ones, each once
pub record AreMarked (seen : List Bool) (found : List ℕ) : Type 0 where
  pub found_marked : All (λ node. IsMarked seen node) found
  pub marked_found : (node : ℕ) → IsMarked seen node → Contains found node
  pub as_many : length found ≡ count_by (λ mark. mark) seen

-- these nodes are marked too, no others are, and the new ones stand after the found ones
pub record Marks
    (nodes : List ℕ) (seen : List Bool) (found : List ℕ) (seen' : List Bool) (found' : List ℕ)
    : Type 0 where
  pub marked : AreMarked seen' found'
  pub kept : (node : ℕ) → IsMarked seen node → IsMarked seen' node
  pub all : All (λ node. IsMarked seen' node) nodes
  pub only : (node : ℕ) → IsMarked seen' node → IsMarked seen node ⊎ Contains nodes node
  pub front : take (length found) found' ≡ found
