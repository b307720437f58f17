-- The graph that a closure stands for. For private functions.
use Rattle.std.specs.Prelude.{ℕ, zero, suc, ◌+◌, ◌*◌, ◌/◌, ◌%◌, if◌then◌else◌, nat_eq, List, [], ◌∷◌, ◌++◌, slice_index}
use Rattle.std.specs.Int.{bit_at}
use Rattle.dl_reach.specs.Digraph.{Digraph}
use Rattle.dl_reach.specs.declared.closure.Edges.{Edges}
use Rattle.dl_reach.specs.declared.closure.Edges.TheVariants.{Listed, Bits}

-- the pairs of a row and those of its columns below a count whose bits are set
abbrev pub row_pairs : List ℕ → ℕ → ℕ → ℕ → List (ℕ × ℕ)
row_pairs words width row zero = []
row_pairs words width row (suc k) =
    if nat_eq (bit_at (slice_index words (row * width + k / 64)) (k % 64)) 1
    then (row, k) ∷ row_pairs words width row k
    else row_pairs words width row k

-- those of all rows below a count
abbrev pub bit_pairs : List ℕ → ℕ → ℕ → ℕ → List (ℕ × ℕ)
bit_pairs words width columns zero = []
bit_pairs words width columns (suc row) = row_pairs words width row columns ++ bit_pairs words width columns row

abbrev pub graph_of : Edges → ℕ → List ℕ → Digraph
graph_of (Listed graph) width words = graph
graph_of (Bits nodes) width words = record { nodes = nodes; edges = bit_pairs words width nodes nodes }
