use Rattle.std.proofs.Common.{◌<◌, length}
use Rattle.dl_join.proofs.order.place_of_next.Given as goal

abbrev pub invariant-loop-i : goal.invariant-loop-i
invariant-loop-i l = l.place < length l.waiting
