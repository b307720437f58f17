use Rattle.std.proofs.Common.{map}
use Rattle.std.specs.Arc.{arc_value}
use Rattle.dl_core.specs.Committing.{AreShardsAfter}
use Rattle.dl_core.proofs.committed.shards_after.Given as goal

abbrev pub invariant-loop-i : goal.invariant-loop-i
invariant-loop-i l = AreShardsAfter l.root l.gone l.parts l.version l.i (map arc_value l.shards)
