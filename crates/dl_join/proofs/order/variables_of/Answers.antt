use Rattle.std.proofs.Common.{take}
use Rattle.std.proofs.lemmas.List.{take_more, take_all}
use Rattle.dl_join.proofs.NarrowLemmas.{no_need}
use Rattle.dl_join.proofs.OrderLemmas.{orders_more}
use Rattle.dl_join.proofs.order.variables_of.Goals as goal

pub loop-need-preserved : goal.loop-need-preserved
loop-need-preserved c =
    let needs = c.args.needs.now in
    let k = c.loop-need.need-index in
    rw (take_more needs k no_need c.loop-need-test.true) (orders_more c.loop-need.vars.items c.push_variables.new.vars.items (take k needs) _ c.loop-need.invariant c.in_ok-push_variables.ensures)

pub returns : goal.returns
returns c = rw (← take_all c.loop-need.need-index c.args.needs.now c.loop-need-test.false) c.loop-need.invariant
