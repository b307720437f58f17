use Rattle.dl_rewrite.proofs.PartsLemmas.{AreTaken}
use Rattle.dl_rewrite.proofs.parts.parts_of.Given as goal

abbrev pub invariant-loop-rest : goal.invariant-loop-rest
invariant-loop-rest l = AreTaken l.query l.variables l.set l.rest l.parts.items

abbrev pub decreases-loop-rest : goal.decreases-loop-rest
decreases-loop-rest l = l.rest
