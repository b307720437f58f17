-- The texts so far are printed.
use Rattle.std.proofs.Common.{take}
use Rattle.std.specs.List.{flat_map}
use Rattle.dl_stream.specs.StreamText.{stream_text}
use Rattle.dl_io.proofs.PrintLemmas.{Printed}
use Rattle.dl_stream.proofs.stream_text.put_streams.Given as goal

abbrev pub invariant-loop-commands : goal.invariant-loop-commands
invariant-loop-commands g l =
    Printed g.S.Sink.got g.S.Sink.faults g.S.Sink.lent l.initial.sink l.sink
    (flat_map (stream_text l.names) (take l.commands-index l.streams))
