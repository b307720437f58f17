use Rattle.dl_numbers.proofs.LowestLemmas.{IsLowSoFar}
use Rattle.dl_numbers.proofs.classes.one_lowest.Given as goal

abbrev pub invariant-loop-place : goal.invariant-loop-place
invariant-loop-place l = IsLowSoFar l.order l.left l.place-index l.lowest
