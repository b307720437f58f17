use Rattle.std.proofs.Common.{◌≡◌, take}
use Rattle.dl_epoch.proofs.copy.copied_axioms.Given as goal

abbrev pub invariant-loop-axiom : goal.invariant-loop-axiom
invariant-loop-axiom l = l.copy ≡ take l.axiom-index l.axioms
