use Rattle.std.proofs.Common.{ap, ◌∙◌, arith}
use Rattle.std.specs.Arc.{arc_value}
use Rattle.dl_row.specs.Lists.{count}
use Rattle.dl_row.specs.Rows.{visible}
use Rattle.dl_core.proofs.LookLemmas.{count-shards_more, counts_fit, small}
use Rattle.dl_core.proofs.look.count_visible.Goals as goal

pub overflow_add-visible : goal.overflow_add-visible
overflow_add-visible c =
    let p = visible c.args.version in
    let fit = counts_fit arc_value c.args.shards.now p c.loop-shard.shard-index c.shard-item.result c.loop-shard-test.true c.shard-item.is in
    let so_far = c.loop-shard.invariant in
    let here = c.count_in-visible.ensures ∙ ap (count p) c.deref.ensures in
    let few = c.requires in
    small (omega (arith, fit, so_far, here, few))

pub loop-shard-preserved : goal.loop-shard-preserved
loop-shard-preserved c =
    let p = visible c.args.version in
    let more = count-shards_more arc_value c.args.shards.now p c.loop-shard.shard-index c.shard-item.result c.loop-shard-test.true c.shard-item.is in
    let so_far = c.loop-shard.invariant in
    let here = c.count_in-visible.ensures ∙ ap (count p) c.deref.ensures in
    omega (arith, more, so_far, here)
