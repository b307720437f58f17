use Rattle.std.proofs.Common.{subst}
use Rattle.dl_models.proofs.LoopLemmas.{fails, All-more}
use Rattle.dl_models.proofs.OperandLemmas.{Same, same-true, same-false}
use Rattle.dl_models.proofs.operands.are_same.Goals as goal

pub returns-then-not-is_same : goal.returns-then-not-is_same
returns-then-not-is_same g c =
    same-false (g.T.Operand.within c.args.model.now) (g.T.Operand.refl c.args.model.now) (g.T.Operand.trans c.args.model.now) c.args.operands.now c.in-Some.first.now c.in-Some.rest.now
    c.loop-next.next-index c.next-item.result c.in-Some.ensures.cases.0 c.loop-next-test.true c.next-item.is
    (fails c.is_same.result c.is_same.ensures c.if-not-is_same.true)

pub loop-next-preserved : goal.loop-next-preserved
loop-next-preserved g c =
    let Here = Same (g.T.Operand.within c.args.model.now) (g.T.Operand.refl c.args.model.now) (g.T.Operand.trans c.args.model.now) c.in-Some.first.now in
    All-more Here c.in-Some.rest.now c.loop-next.next-index c.next-item.result c.loop-next-test.true c.loop-next.invariant
    (subst Here c.next-item.is (c.is_same.ensures.0 c.if-not-is_same.false))

pub returns : goal.returns
returns g c =
    same-true (g.T.Operand.within c.args.model.now) (g.T.Operand.refl c.args.model.now) (g.T.Operand.trans c.args.model.now) c.args.operands.now c.in-Some.first.now c.in-Some.rest.now
    c.loop-next.next-index c.in-Some.ensures.cases.0 c.loop-next-test.false c.loop-next.invariant
