-- The texts so far are printed.
use Rattle.std.proofs.Common.{take}
use Rattle.std.specs.List.{flat_map}
use Rattle.dl_stream.specs.Lines.{row_line}
use Rattle.dl_io.proofs.PrintLemmas.{Printed}
use Rattle.dl_stream.proofs.reply.put_rows.Given as goal

abbrev pub invariant-loop-row : goal.invariant-loop-row
invariant-loop-row g l =
    Printed g.S.Sink.got g.S.Sink.faults g.S.Sink.lent l.initial.sink l.sink
    (flat_map (row_line l.names l.current) (take l.row-index l.rows))
