use Rattle.std.proofs.Common.{◌≡◌, map, take}
use Rattle.std.specs.Arc.{arc_value}
use Rattle.dl_core.proofs.root.shared.Given as goal

abbrev pub invariant-loop-shard : goal.invariant-loop-shard
invariant-loop-shard l = map arc_value l.copies ≡ map arc_value (take l.shard-index l.shards)
