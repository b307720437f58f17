-- A graph that is kept with its edges turned round, and with its nodes in another order: first the last `rest` nodes,
-- each two that follow one another in each other's place, and then the first ones. For private functions.
use Rattle.std.specs.Prelude.{◌≡◌, ℕ, ◌+◌, ◌*◌, ◌/◌, ◌-◌, ◌↔◌, if◌then◌else◌, nat_lt, List, Contains}
use Rattle.dl_reach.specs.Digraph.{Digraph}

-- the graph, and how many of its nodes stand first and last in it
pub record Ways : Type 0 where
  pub first : ℕ
  pub rest : ℕ
  pub graph : Digraph

-- the other of a pair: 1 of 0, 0 of 1, 3 of 2 and so on
abbrev pub other : ℕ → ℕ
other n = 4 * (n / 2) + 1 - n

-- where a node stands in the kept order
abbrev pub place : ℕ → ℕ → ℕ → ℕ
place first rest n = if nat_lt n first then rest + n else other (n - first)

-- which node stands at a place
abbrev pub node_at : ℕ → ℕ → ℕ → ℕ
node_at first rest i = if nat_lt i rest then first + other i else i - rest

-- an edge turned round, between the places of its ends, and back
abbrev pub kept_edge : ℕ → ℕ → ℕ × ℕ → ℕ × ℕ
kept_edge first rest e = (place first rest e.1, place first rest e.0)

abbrev pub edge_of : ℕ → ℕ → ℕ × ℕ → ℕ × ℕ
edge_of first rest e = (node_at first rest e.1, node_at first rest e.0)

-- the ways of these edges between so many nodes
pub record AreWaysOf (first rest : ℕ) (edges : List (ℕ × ℕ)) (ways : Ways) : Type 0 where
  pub first_is : ways.first ≡ first
  pub rest_is : ways.rest ≡ rest
  pub nodes : ways.graph.nodes ≡ first + rest
  pub same : (a b : ℕ) → Contains ways.graph.edges (a, b) ↔ Contains edges (a, b)
