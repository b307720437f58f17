-- Places of names in a graph, and tables with an entry for each place.
use Rattle.std.specs.Prelude.{◌≡◌, ℕ, zero, suc, ◌<◌, ◌≤◌, List, [], ◌∷◌, ◌++◌, Option, None, length, get_or, Contains, MatchOption}
use Rattle.dl_reach.specs.Chain.{Chain}
use Rattle.dl_reach.specs.Digraph.{Digraph, IsEdge, AreConnected}
use Rattle.dl_numbers.specs.DepthFirst.{IsLeast, IsParent, IsStrictlyAbove}

-- the numbers below a count
abbrev pub places : ℕ → List ℕ
places zero = []
places (suc n) = places n ++ n ∷ []

-- a chain leads from the one place to the other
abbrev pub Reaches : Digraph → ℕ → ℕ → Type 0
Reaches order = Chain (IsEdge order)

-- the one is strictly above the other
abbrev pub IsAbove : Digraph → ℕ → ℕ → Type 0
IsAbove order = IsStrictlyAbove (places order.nodes) (Reaches order)

-- so it is, and the least of its class
abbrev pub IsLeaderAbove : Digraph → List ℕ → ℕ → ℕ → Type 0
IsLeaderAbove order leaders b a = (get_or leaders b 0 ≡ b) × IsAbove order b a

-- neither the other nor strictly above it
abbrev pub IsBeside : Digraph → ℕ → ℕ → Type 0
IsBeside order b a = (b ≡ a → ⊥) × (IsAbove order b a → ⊥)

-- it is strictly above none of some places
abbrev pub IsLowest : Digraph → List ℕ → ℕ → Type 0
IsLowest order above b = (c : ℕ) → Contains above c → IsAbove order b c → ⊥

-- of some places the least that is so
pub record IsFirstLowest (order : Digraph) (above : List ℕ) (b : ℕ) : Type 0 where
  pub among : Contains above b
  pub lowest : IsLowest order above b
  pub first : (c : ℕ) → Contains above c → IsLowest order above c → b ≤ c

-- for each place the least of its class
pub record AreLeaders (order : Digraph) (leaders : List ℕ) : Type 0 where
  pub count : length leaders ≡ order.nodes
  pub connected : (k : ℕ) → k < order.nodes → AreConnected order k (get_or leaders k 0)
  pub least : (k : ℕ) → k < order.nodes → (other : ℕ) → AreConnected order k other → get_or leaders k 0 ≤ other

-- for each place that is the least of its class the parent, or none
pub record AreParents (order : Digraph) (parents : List (Option ℕ)) : Type 0 where
  pub count : length parents ≡ order.nodes
  pub each : (k : ℕ) → k < order.nodes → IsLeast (places order.nodes) (Reaches order) k
      → MatchOption (get_or parents k None) ((p : ℕ) → IsParent (places order.nodes) (Reaches order) p k → ⊥)
      (λ p. IsParent (places order.nodes) (Reaches order) p k)
