use Rattle.std.proofs.Common.{ℕ, ◌-◌, ◌<◌, ◌≤◌}
use Rattle.dl_tree.specs.Rows.{HasBit}
use Rattle.dl_tree.proofs.bits.next_bit.Given as goal

abbrev pub invariant-loop-i : goal.invariant-loop-i
invariant-loop-i l = record {
  le : l.from ≤ l.i;
  none : (k : ℕ) → l.from ≤ k → k < l.i → HasBit l.row k → ⊥;
}

abbrev pub decreases-loop-i : goal.decreases-loop-i
decreases-loop-i l = l.places - l.i
