use Rattle.std.proofs.Common.{take}
use Rattle.dl_join.specs.Probing.{AreFitted}
use Rattle.dl_join.proofs.turn.fitted_needs.Given as goal

abbrev pub invariant-loop-i : goal.invariant-loop-i
invariant-loop-i l = AreFitted l.order (take l.i l.needs) l.fitted.items
