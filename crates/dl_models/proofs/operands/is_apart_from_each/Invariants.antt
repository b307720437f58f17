use Rattle.std.proofs.Common.{take}
use Rattle.std.specs.List.{All}
use Rattle.dl_models.proofs.operands.is_apart_from_each.Given as goal

abbrev pub invariant-loop-other : goal.invariant-loop-other
invariant-loop-other g l = All (g.T.Operand.apart l.model l.operand) (take l.other-index l.others)
