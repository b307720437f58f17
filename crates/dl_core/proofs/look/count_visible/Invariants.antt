use Rattle.std.proofs.Common.{◌≡◌, take, flat_map}
use Rattle.std.specs.Arc.{arc_value}
use Rattle.dl_row.specs.Lists.{count}
use Rattle.dl_row.specs.Rows.{visible}
use Rattle.dl_core.proofs.look.count_visible.Given as goal

abbrev pub invariant-loop-shard : goal.invariant-loop-shard
invariant-loop-shard l = l.visible ≡ count (visible l.version) (flat_map arc_value (take l.shard-index l.shards))
