-- The texts so far are printed.
use Rattle.std.proofs.Common.{◌∷◌, take}
use Rattle.std.specs.List.{flat_map}
use Rattle.dl_io.proofs.PrintLemmas.{Printed}
use Rattle.dl_text.proofs.operand.put_spaced.Given as goal

abbrev pub invariant-loop-operand : goal.invariant-loop-operand
invariant-loop-operand g l =
    Printed g.S.Sink.got g.S.Sink.faults g.S.Sink.lent l.initial.sink l.sink
    (flat_map (λ operand. 32 ∷ g.T.Operand.text l.names operand) (take l.operand-index l.operands))
