-- The texts so far are printed.
use Rattle.std.proofs.Common.{take}
use Rattle.std.specs.List.{flat_map}
use Rattle.dl_io.proofs.PrintLemmas.{Printed}
use Rattle.dl_run.proofs.output.put_texts.Given as goal

abbrev pub invariant-loop-text : goal.invariant-loop-text
invariant-loop-text g l =
    Printed g.S.Sink.got g.S.Sink.faults g.S.Sink.lent l.initial.sink l.sink (flat_map (λ text. text.now) (take l.text-index l.texts))
