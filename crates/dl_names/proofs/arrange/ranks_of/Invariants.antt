use Rattle.std.proofs.Common.{◌≡◌, ℕ, ◌<◌, slice_index, slice_index_or, vec_len}
use Rattle.dl_names.specs.Arrange.{Entry}
use Rattle.dl_names.proofs.arrange.ranks_of.Given as goal

abbrev pub invariant-loop-rank : goal.invariant-loop-rank
invariant-loop-rank l =
    (vec_len l.ranks ≡ vec_len l.entries)
    × ((k : ℕ) (d : Entry) → k < l.rank → slice_index l.ranks.items (slice_index_or l.entries.items k d).2 ≡ k)
