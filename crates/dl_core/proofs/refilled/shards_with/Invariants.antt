use Rattle.std.proofs.Common.{map}
use Rattle.std.specs.Arc.{arc_value}
use Rattle.dl_core.specs.Maintaining.{AreShardsWith}
use Rattle.dl_core.proofs.refilled.shards_with.Given as goal

abbrev pub invariant-loop-j : goal.invariant-loop-j
invariant-loop-j l = AreShardsWith l.root l.i (arc_value l.shared) l.j (map arc_value l.shards)
