use Rattle.std.proofs.Common.{◌<◌, length, add-one, arith, slice_index}
use Rattle.dl_stream.specs.Commands.{renamed_edit}
use Rattle.dl_names.proofs.RankLemmas.{get_or-changed, set-changed}
use Rattle.dl_stream.proofs.ranked.rank_edits.Goals as goal

pub loop-edit-preserved : goal.loop-edit-preserved
loop-edit-preserved c =
    let i = c.loop-edit.edit-index in
    let f = renamed_edit (slice_index c.args.ranks.now) in
    let i_in : i < length c.args.edits.now = omega arith in
    rw (c.rank_edit.ensures, c.loop-edit.invariant, get_or-changed f c.args.edits.now, add-one) (set-changed f c.args.edits.now i _ i_in)
