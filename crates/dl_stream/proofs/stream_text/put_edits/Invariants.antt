-- The texts so far are printed.
use Rattle.std.proofs.Common.{take}
use Rattle.std.specs.List.{flat_map}
use Rattle.dl_stream.specs.StreamText.{line_of, edit_text}
use Rattle.dl_io.proofs.PrintLemmas.{Printed}
use Rattle.dl_stream.proofs.stream_text.put_edits.Given as goal

abbrev pub invariant-loop-edit : goal.invariant-loop-edit
invariant-loop-edit g l =
    Printed g.S.Sink.got g.S.Sink.faults g.S.Sink.lent l.initial.sink l.sink
    (flat_map (λ edit. line_of (edit_text l.names edit)) (take l.edit-index l.edits))
