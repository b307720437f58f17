use Rattle.std.proofs.Common.{take}
use Rattle.dl_rewrite.specs.Steps.{AreMostGeneralUnifier}
use Rattle.dl_rewrite.proofs.unify.unifier.Given as goal

abbrev pub invariant-loop-pair : goal.invariant-loop-pair
invariant-loop-pair l = AreMostGeneralUnifier l.vars (take l.pair-index l.pairs) l.to.items
