use Rattle.std.proofs.Common.{◌≡◌, take}
use Rattle.dl_normal.specs.Filled.{filled_pairs}
use Rattle.dl_normal.proofs.filled.auxiliaries.Given as goal

abbrev pub invariant-loop-axiom : goal.invariant-loop-axiom
invariant-loop-axiom l = l.pairs ≡ filled_pairs (take l.axiom-index l.axioms)
