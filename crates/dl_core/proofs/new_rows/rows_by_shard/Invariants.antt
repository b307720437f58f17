use Rattle.std.proofs.Common.{ℕ, map, take}
use Rattle.dl_epoch.specs.Frozen.{from_version}
use Rattle.dl_core.specs.Next.{row_for}
use Rattle.dl_core.specs.Loading.{AreParts}
use Rattle.dl_core.proofs.new_rows.rows_by_shard.Given as goal

abbrev pub invariant-loop-fact : goal.invariant-loop-fact
invariant-loop-fact l =
    (first : ℕ) → AreParts l.shards
    (map (row_for (from_version first l.epoch) l.version) (take l.fact-index l.facts)) l.parts.items
