use Rattle.std.proofs.Common.{length}
use Rattle.dl_join.proofs.OrderLemmas.{AreWaited}
use Rattle.dl_join.proofs.order.order_of.Given as goal

abbrev pub invariant-loop-order : goal.invariant-loop-order
invariant-loop-order l = AreWaited l.initial.waiting.items l.order.items l.waiting.items

abbrev pub decreases-loop-order : goal.decreases-loop-order
decreases-loop-order l = length l.waiting.items
