use Rattle.std.proofs.Common.{ℕ, ◌<◌, ◌↔◌, length, get_or}
use Rattle.dl_reach.specs.Chain.{Chain}
use Rattle.dl_reach.specs.Digraph.{IsEdge}
use Rattle.dl_reach.specs.Matrix.{HasBit}
use Rattle.dl_reach.proofs.closure.turn_rows.Given as goal

abbrev pub invariant-loop-column : goal.invariant-loop-column
invariant-loop-column l =
    (a b : ℕ) → HasBit l.words l.width a b ↔ ((b < l.column) × (a < length l.nodes)
    × Chain (IsEdge l.closure) (get_or l.nodes b 0) (get_or l.nodes a 0))
