-- Directed graphs as lists of pairs.
use Rattle.std.specs.Prelude.{ℕ, ◌<◌, List, Contains, All}
use Rattle.dl_reach.specs.Chain.{Chain}

-- a directed graph: its nodes are the numbers below `nodes`, and each pair is an edge from its
-- first node to its second
pub record Digraph : Type 0 where
  pub nodes : ℕ
  pub edges : List (ℕ × ℕ)

-- the most nodes of a `Graph`: a bit for each two of them takes 32 MiB
abbrev pub max_nodes : ℕ
max_nodes = 16384

-- an edge of the list leads from a to b
abbrev pub Leads : List (ℕ × ℕ) → ℕ → ℕ → Type 0
Leads edges a b = Contains edges (a, b)

-- an edge leads from a to b
abbrev pub IsEdge : Digraph → ℕ → ℕ → Type 0
IsEdge graph = Leads graph.edges

-- both ends of each edge are nodes
abbrev pub EndsBelow : ℕ → List (ℕ × ℕ) → Type 0
EndsBelow nodes edges = All (λ e. (e.0 < nodes) × (e.1 < nodes)) edges

-- chains of edges lead both ways: a and b are strongly connected
abbrev pub AreConnected : Digraph → ℕ → ℕ → Type 0
AreConnected graph a b = Chain (IsEdge graph) a b × Chain (IsEdge graph) b a
