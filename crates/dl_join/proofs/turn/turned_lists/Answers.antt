use Rattle.std.proofs.Common.{take}
use Rattle.std.proofs.lemmas.List.{take_more, take_all}
use Rattle.dl_join.proofs.NarrowLemmas.{no_need}
use Rattle.dl_join.proofs.JoinLemmas.{turned_more}
use Rattle.dl_join.proofs.turn.turned_lists.Goals as goal

pub loop-need-preserved : goal.loop-need-preserved
loop-need-preserved c =
    let needs = c.args.needs.now in
    let k = c.loop-need.need-index in
    rw (take_more needs k no_need c.loop-need-test.true, c.in_ok-push.ensures.items) (turned_more c.args.order.now (take k needs) c.loop-need.lists.items _ _ c.loop-need.invariant c.in_ok-turned_list.ensures)

pub returns : goal.returns
returns c = rw (← take_all c.loop-need.need-index c.args.needs.now c.loop-need-test.false) c.loop-need.invariant
