use Rattle.std.proofs.Common.{ℕ, ◌+◌, ◌<◌, slice_index}
use Rattle.dl_tests_store.proofs.row.are_places.Given as goal

abbrev pub invariant-loop-i : goal.invariant-loop-i
invariant-loop-i l = record {
  rising : (k : ℕ) → k + 1 < l.i → slice_index l.places k < slice_index l.places (k + 1);
  small : (k : ℕ) → k < l.i → slice_index l.places k < l.bound;
}
