use Rattle.std.proofs.Common.{ℕ, ◌<◌, ◌+◌, get_or, drop}
use Rattle.std.specs.List.{All}
use Rattle.dl_models.proofs.operands.are_apart.Given as goal

abbrev pub invariant-loop-i : goal.invariant-loop-i
invariant-loop-i g l = (j : ℕ) (d : _) → j < l.i → All (g.T.Operand.apart l.model (get_or l.operands j d)) (drop (j + 1) l.operands)
