use Rattle.std.proofs.Common.{◌<◌, length, map, add-one, arith, slice_index}
use Rattle.dl_stream.specs.Commands.{renamed_command}
use Rattle.dl_names.proofs.RankLemmas.{get_or-changed, set-changed}
use Rattle.dl_stream.proofs.ranked.rank_streams.Goals as goal

pub loop-commands-preserved : goal.loop-commands-preserved
loop-commands-preserved c =
    let i = c.loop-commands.commands-index in
    let f = map (renamed_command (slice_index c.args.ranks.now)) in
    let i_in : i < length c.args.streams.now = omega arith in
    rw (c.rank_list.ensures, c.loop-commands.invariant, get_or-changed f c.args.streams.now, add-one) (set-changed f c.args.streams.now i _ i_in)
