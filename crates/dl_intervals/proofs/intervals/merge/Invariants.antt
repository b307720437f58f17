use Rattle.std.proofs.Common.{◌+◌, ◌-◌, ◌≤◌, length}
use Rattle.dl_intervals.specs.Growing.{Merges}
use Rattle.dl_intervals.proofs.intervals.merge.Given as goal

abbrev pub invariant-loop-i : goal.invariant-loop-i
invariant-loop-i l = record {
  left_range : l.i ≤ length l.left;
  right_range : l.j ≤ length l.right;
  merged : Merges l.left l.i l.right l.j l.items.items;
}

abbrev pub decreases-loop-i : goal.decreases-loop-i
decreases-loop-i l = (length l.left - l.i) + (length l.right - l.j)
