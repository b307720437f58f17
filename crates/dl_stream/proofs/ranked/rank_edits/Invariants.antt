use Rattle.std.proofs.Common.{◌≡◌, ◌++◌, map, take, drop, slice_index}
use Rattle.dl_stream.specs.Commands.{renamed_edit}
use Rattle.dl_stream.proofs.ranked.rank_edits.Given as goal

abbrev pub invariant-loop-edit : goal.invariant-loop-edit
invariant-loop-edit l = l.edits ≡ map (renamed_edit (slice_index l.ranks)) (take l.edit-index l.fn.edits) ++ drop l.edit-index l.fn.edits
