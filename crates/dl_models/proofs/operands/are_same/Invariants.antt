use Rattle.std.proofs.Common.{take}
use Rattle.std.specs.List.{All}
use Rattle.dl_models.proofs.operands.are_same.Given as goal

abbrev pub invariant-loop-next : goal.invariant-loop-next
invariant-loop-next g l = All (λ b. g.T.Operand.within l.model l.first b × g.T.Operand.within l.model b l.first) (take l.next-index l.rest)
