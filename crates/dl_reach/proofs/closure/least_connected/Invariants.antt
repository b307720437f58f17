use Rattle.std.proofs.Common.{ℕ, ◌<◌, ◌-◌}
use Rattle.dl_reach.specs.Matrix.{HasBit}
use Rattle.dl_reach.proofs.closure.least_connected.Given as goal

abbrev pub invariant-loop-other : goal.invariant-loop-other
invariant-loop-other l =
    (k : ℕ) → k < l.other → HasBit l.words l.width l.node k → HasBit l.words l.width k l.node → ⊥

abbrev pub decreases-loop-other : goal.decreases-loop-other
decreases-loop-other l = l.row - l.other
