-- The names so far are printed.
use Rattle.std.proofs.Common.{[], take, get_or}
use Rattle.std.specs.List.{flat_map, enumerate_from}
use Rattle.dl_text.proofs.LineLemmas.{name_behind}
use Rattle.dl_io.proofs.PrintLemmas.{Printed}
use Rattle.dl_text.proofs.answers.put_names.Given as goal

abbrev pub invariant-loop-column : goal.invariant-loop-column
invariant-loop-column g l =
    Printed g.S.Sink.got g.S.Sink.faults g.S.Sink.lent l.initial.sink l.sink
    (flat_map (name_behind l.names) (take l.column (enumerate_from 0 (get_or l.tuples.tuples l.row []))))
