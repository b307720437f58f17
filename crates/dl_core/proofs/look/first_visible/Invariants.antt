use Rattle.std.proofs.Common.{◌≡◌, filter, take, flat_map}
use Rattle.std.specs.Arc.{arc_value}
use Rattle.dl_row.specs.Lists.{ordered}
use Rattle.dl_row.specs.Rows.{row_cmp, visible}
use Rattle.dl_core.proofs.look.first_visible.Given as goal

abbrev pub invariant-loop-shard : goal.invariant-loop-shard
invariant-loop-shard l =
    take l.n (ordered row_cmp l.rows)
    ≡ take l.n (ordered row_cmp (filter (visible l.version) (flat_map arc_value (take l.shard-index l.shards))))
