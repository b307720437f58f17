use Rattle.dl_rewrite.proofs.FoundLemmas.{AreFound}
use Rattle.dl_rewrite.proofs.rewriting.disjuncts.Given as goal

abbrev pub invariant-loop-set : goal.invariant-loop-set
invariant-loop-set l = AreFound l.query l.variables l.table l.set l.found
