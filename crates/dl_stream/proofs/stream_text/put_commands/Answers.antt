use Rattle.std.proofs.Common.{ap}
use Rattle.dl_stream.specs.StreamText.{command_text}
use Rattle.dl_io.proofs.PrintLemmas.{prints_none, prints_next, prints_next_failed, prints_whole}
use Rattle.dl_stream.proofs.stream_text.put_commands.Goals as goal

pub loop-command-init : goal.loop-command-init
loop-command-init g c = prints_none _

pub returns-in_err-put_command : goal.returns-in_err-put_command
returns-in_err-put_command g c =
    prints_next_failed (command_text c.args.names.now) c.args.commands.now c.loop-command.command-index _ c.loop-command-test.true c.from_residual.ensures.0 (ap (command_text c.args.names.now) c.command-item.is) c.loop-command.invariant c.in_err-put_command.ensures

pub loop-command-preserved : goal.loop-command-preserved
loop-command-preserved g c =
    prints_next (command_text c.args.names.now) c.args.commands.now c.loop-command.command-index _ c.loop-command-test.true (ap (command_text c.args.names.now) c.command-item.is) c.loop-command.invariant c.in_ok-put_command.ensures

pub returns : goal.returns
returns g c = prints_whole (command_text c.args.names.now) c.args.commands.now c.loop-command.command-index c.loop-command-test.false c.loop-command.invariant
