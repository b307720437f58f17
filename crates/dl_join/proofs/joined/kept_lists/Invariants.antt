use Rattle.std.proofs.Common.{take}
use Rattle.dl_join.specs.Probing.{AreKept}
use Rattle.dl_join.proofs.joined.kept_lists.Given as goal

abbrev pub invariant-loop-k : goal.invariant-loop-k
invariant-loop-k l = AreKept (take l.k l.probes) l.lists l.made.items
