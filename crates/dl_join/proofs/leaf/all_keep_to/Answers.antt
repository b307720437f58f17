use Rattle.std.proofs.lemmas.List.{take_all}
use Rattle.std.proofs.lemmas.List.Elements.{All-more}
use Rattle.dl_join.specs.Leaves.{KeepsTo}
use Rattle.dl_join.proofs.leaf.all_keep_to.Goals as goal

pub loop-need-preserved : goal.loop-need-preserved
loop-need-preserved c =
    All-more (KeepsTo c.args.var c.args.to) c.args.needs.now c.loop-need.need-index _ c.loop-need-test.true c.loop-need.invariant (c.keeps_to.ensures c.if-not-keeps_to.false)

pub returns : goal.returns
returns c = λ _. rw (← take_all c.loop-need.need-index c.args.needs.now c.loop-need-test.false) c.loop-need.invariant
