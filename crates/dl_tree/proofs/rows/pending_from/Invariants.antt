use Rattle.std.proofs.Common.{ℕ, ◌-◌, ◌<◌, ◌≤◌, length}
use Rattle.dl_tree.specs.Rows.{HasBit, IsMarked}
use Rattle.dl_tree.proofs.rows.pending_from.Given as goal

abbrev pub invariant-loop-k : goal.invariant-loop-k
invariant-loop-k l = (k : ℕ) → l.start ≤ k → k < l.i → HasBit l.row k → IsMarked l.done k

abbrev pub decreases-loop-k : goal.decreases-loop-k
decreases-loop-k l = length l.done - l.i
