use Rattle.std.proofs.Common.{◌≡◌, map, take}
use Rattle.dl_join.specs.Leaves.{doubled_name}
use Rattle.dl_join.proofs.reduced.doubled.Given as goal

abbrev pub invariant-loop-i : goal.invariant-loop-i
invariant-loop-i l = l.pairs.items ≡ map doubled_name (take l.i l.tuples.tuples)
