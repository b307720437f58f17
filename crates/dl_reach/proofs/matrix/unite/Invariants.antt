use Rattle.dl_reach.proofs.Matrices.{United}
use Rattle.dl_reach.proofs.matrix.unite.Given as goal

abbrev pub invariant-loop-i : goal.invariant-loop-i
invariant-loop-i l = United l.width l.into l.from l.initial.words l.words l.i l.changed
