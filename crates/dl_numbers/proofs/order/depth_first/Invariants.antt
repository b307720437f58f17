use Rattle.std.proofs.Common.{◌-◌, length}
use Rattle.dl_numbers.proofs.GrowLemmas.{IsGrown}
use Rattle.dl_numbers.proofs.order.depth_first.Given as goal

abbrev pub invariant-loop-class : goal.invariant-loop-class
invariant-loop-class l = IsGrown l.order l.leaders.items l.waiting.items l.found.items

abbrev pub decreases-loop-class : goal.decreases-loop-class
decreases-loop-class l = l.order.nodes - length l.found.items
