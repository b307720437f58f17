use Rattle.std.proofs.Common.{◌≡◌, [], take, get_or}
use Rattle.dl_join.proofs.merged.copy_tuple.Given as goal

abbrev pub invariant-loop-j : goal.invariant-loop-j
invariant-loop-j l = l.copy.items ≡ take l.j (get_or l.tuples.tuples l.i [])
