use Rattle.dl_join.proofs.NeedLemmas.{Meets-more, Meets-nothing}
use Rattle.dl_join.proofs.meet.meet.Goals as goal

pub loop-reached-preserved : goal.loop-reached-preserved
loop-reached-preserved c =
    let e = c.in-Some.ensures in
    Meets-more c.args.from c.loop-reached.bound c.in-Some.reached c.args.needs.now c.loop-reached.needs c.raise.new.needs c.loop-reached.invariant e.reached e.moved e.stand e.least

pub returns-clause-none : goal.returns-clause-none
returns-clause-none c = Meets-nothing c.args.from c.loop-reached.bound c.args.needs.now c.loop-reached.needs c.loop-reached.invariant c.in_default.ensures.none
