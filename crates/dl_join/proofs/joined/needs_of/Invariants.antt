use Rattle.std.proofs.Common.{take}
use Rattle.dl_join.specs.Probing.{AreNeedsOf}
use Rattle.dl_join.proofs.joined.needs_of.Given as goal

abbrev pub invariant-loop-k : goal.invariant-loop-k
invariant-loop-k l = AreNeedsOf (take l.k l.probes) l.lists l.needs.items
