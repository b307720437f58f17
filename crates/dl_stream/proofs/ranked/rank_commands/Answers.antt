use Rattle.std.proofs.Common.{◌<◌, length, add-one, arith, slice_index}
use Rattle.dl_stream.specs.Commands.{renamed_command}
use Rattle.dl_names.proofs.RankLemmas.{get_or-changed, set-changed}
use Rattle.dl_stream.proofs.ranked.rank_commands.Goals as goal

pub loop-command-preserved : goal.loop-command-preserved
loop-command-preserved c =
    let i = c.loop-command.command-index in
    let f = renamed_command (slice_index c.args.ranks.now) in
    let i_in : i < length c.args.commands.now = omega arith in
    rw (c.rank_command.ensures, c.loop-command.invariant, get_or-changed f c.args.commands.now, add-one) (set-changed f c.args.commands.now i _ i_in)
