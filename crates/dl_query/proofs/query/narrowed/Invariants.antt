use Rattle.std.proofs.Common.{◌≡◌, take}
use Rattle.dl_query.proofs.query.narrowed.Given as goal

abbrev pub invariant-loop-number : goal.invariant-loop-number
invariant-loop-number l = l.list ≡ take l.number-index l.head
