-- The texts so far are printed.
use Rattle.std.proofs.Common.{take}
use Rattle.std.specs.List.{flat_map}
use Rattle.dl_stream.specs.StreamText.{command_text}
use Rattle.dl_io.proofs.PrintLemmas.{Printed}
use Rattle.dl_stream.proofs.stream_text.put_commands.Given as goal

abbrev pub invariant-loop-command : goal.invariant-loop-command
invariant-loop-command g l =
    Printed g.S.Sink.got g.S.Sink.faults g.S.Sink.lent l.initial.sink l.sink
    (flat_map (command_text l.names) (take l.command-index l.commands))
