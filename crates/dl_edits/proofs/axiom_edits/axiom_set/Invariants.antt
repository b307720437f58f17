use Rattle.std.proofs.Common.{◌≡◌, take}
use Rattle.dl_edits.proofs.axiom_edits.axiom_set.Given as goal

abbrev pub invariant-loop-axiom : goal.invariant-loop-axiom
invariant-loop-axiom l = l.set.keys ≡ take l.axiom-index l.axioms
