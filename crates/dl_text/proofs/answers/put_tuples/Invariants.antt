-- The lines so far are printed.
use Rattle.std.proofs.Common.{take}
use Rattle.std.specs.List.{flat_map}
use Rattle.dl_text.specs.AnswerText.{tuple_line}
use Rattle.dl_io.proofs.PrintLemmas.{Printed}
use Rattle.dl_text.proofs.answers.put_tuples.Given as goal

abbrev pub invariant-loop-row : goal.invariant-loop-row
invariant-loop-row g l =
    Printed g.S.Sink.got g.S.Sink.faults g.S.Sink.lent l.initial.sink l.sink
    (flat_map (tuple_line l.names) (take l.row l.tuples.tuples))
