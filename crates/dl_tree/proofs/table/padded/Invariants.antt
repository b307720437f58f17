use Rattle.std.proofs.Common.{◌≡◌, ℕ, ◌≤◌, ◌-◌, [], length, slice_index_or}
use Rattle.dl_tree.proofs.table.padded.Given as goal

abbrev pub invariant-loop-alloc : goal.invariant-loop-alloc
invariant-loop-alloc l = record {
  few : length l.all ≤ 256;
  same : (k : ℕ) → slice_index_or l.all k [] ≡ slice_index_or l.fn.rows k [];
}

abbrev pub decreases-loop-alloc : goal.decreases-loop-alloc
decreases-loop-alloc l = 256 - length l.all
