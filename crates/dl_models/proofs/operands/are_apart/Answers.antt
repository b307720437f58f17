use Rattle.dl_models.proofs.LoopLemmas.{fails}
use Rattle.dl_models.proofs.OperandLemmas.{apart-more, apart-true, apart-false}
use Rattle.dl_models.proofs.operands.are_apart.Goals as goal

pub returns-then-not-is_apart_from_each : goal.returns-then-not-is_apart_from_each
returns-then-not-is_apart_from_each g c =
    apart-false (g.T.Operand.apart c.args.model.now) c.args.operands.now c.loop-i.i c.index-operands-i.result c.loop-i-test.true c.index-operands-i.is
    (fails c.is_apart_from_each.result c.is_apart_from_each.ensures c.if-not-is_apart_from_each.true)

pub loop-i-preserved : goal.loop-i-preserved
loop-i-preserved g c =
    apart-more (g.T.Operand.apart c.args.model.now) c.args.operands.now c.loop-i.i c.index-operands-i.result c.loop-i-test.true c.index-operands-i.is
    c.loop-i.invariant (c.is_apart_from_each.ensures.0 c.if-not-is_apart_from_each.false)

pub returns : goal.returns
returns g c =
    apart-true (g.T.Operand.apart c.args.model.now) c.args.operands.now c.loop-i.i c.loop-i-test.false c.loop-i.invariant
