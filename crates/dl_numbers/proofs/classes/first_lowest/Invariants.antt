use Rattle.std.proofs.Common.{length}
use Rattle.dl_numbers.proofs.LowestLemmas.{IsSearched}
use Rattle.dl_numbers.proofs.classes.first_lowest.Given as goal

abbrev pub invariant-loop-alloc : goal.invariant-loop-alloc
invariant-loop-alloc l = IsSearched l.order l.above l.left.items l.first

abbrev pub decreases-loop-alloc : goal.decreases-loop-alloc
decreases-loop-alloc l = length l.left.items
