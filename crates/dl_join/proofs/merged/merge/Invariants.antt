use Rattle.std.proofs.Common.{◌≡◌, ◌+◌, ◌-◌, ◌≤◌, length}
use Rattle.dl_join.proofs.MergeLemmas.{Merging}
use Rattle.dl_join.proofs.merged.merge.Given as goal

abbrev pub invariant-loop-i : goal.invariant-loop-i
invariant-loop-i l = record {
  width : l.merged.width ≡ l.one.width;
  within : length l.merged.tuples ≤ l.limit;
  merging : Merging l.one.tuples l.two.tuples l.i l.j l.merged.tuples;
}

abbrev pub decreases-loop-i : goal.decreases-loop-i
decreases-loop-i l = (length l.one.tuples - l.i) + (length l.two.tuples - l.j)
