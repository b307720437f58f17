use Rattle.std.proofs.Common.{take}
use Rattle.std.proofs.lemmas.List.{take_more, take_all}
use Rattle.dl_join.proofs.NarrowLemmas.{no_need}
use Rattle.dl_join.proofs.JoinLemmas.{fitted_more}
use Rattle.dl_join.proofs.turn.fitted_needs.Goals as goal

pub fitted_need-requires-clause-order : goal.fitted_need-requires-clause-order
fitted_need-requires-clause-order c = c.requires.order c.loop-i.i no_need c.loop-i-test.true

pub loop-i-preserved : goal.loop-i-preserved
loop-i-preserved c =
    let needs = c.args.needs.now in
    rw (take_more needs c.loop-i.i no_need c.loop-i-test.true, c.in_ok-push.ensures.items) (fitted_more c.args.order.now (take c.loop-i.i needs) c.loop-i.fitted.items _ _ c.loop-i.invariant c.fitted_need.ensures)

pub returns : goal.returns
returns c = rw (← take_all c.loop-i.i c.args.needs.now c.loop-i-test.false) c.loop-i.invariant
