use Rattle.std.proofs.Common.{ℕ, ◌≡◌, ◌<◌, ◌↔◌, ◌⊎◌, get_or}
use Rattle.dl_reach.specs.Chain.{Chain}
use Rattle.dl_reach.specs.Digraph.{IsEdge}
use Rattle.dl_reach.specs.Matrix.{HasBit}
use Rattle.dl_reach.proofs.closure.turn_row.Given as goal

abbrev pub invariant-loop-row : goal.invariant-loop-row
invariant-loop-row l =
    (a b : ℕ) → HasBit l.words l.width a b ↔ (HasBit l.initial.words l.width a b ⊎ ((b ≡ l.column) × (a < l.row)
    × Chain (IsEdge l.closure) (get_or l.nodes l.column 0) (get_or l.nodes a 0)))
