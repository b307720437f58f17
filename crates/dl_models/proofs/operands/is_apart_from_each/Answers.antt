use Rattle.std.proofs.Common.{sym, subst}
use Rattle.dl_models.proofs.LoopLemmas.{fails, All-more, list-true, list-false}
use Rattle.dl_models.proofs.operands.is_apart_from_each.Goals as goal

pub returns-then-not-is_apart : goal.returns-then-not-is_apart
returns-then-not-is_apart g c =
    list-false (g.T.Operand.apart c.args.model.now c.args.operand) c.args.others.now c.loop-other.other-index c.other-item.result c.loop-other-test.true
    (λ h. fails c.is_apart.result c.is_apart.ensures c.if-not-is_apart.true
    (subst (g.T.Operand.apart c.args.model.now c.args.operand) (sym c.other-item.is) h))

pub loop-other-preserved : goal.loop-other-preserved
loop-other-preserved g c =
    All-more (g.T.Operand.apart c.args.model.now c.args.operand) c.args.others.now c.loop-other.other-index c.other-item.result c.loop-other-test.true
    c.loop-other.invariant (subst (g.T.Operand.apart c.args.model.now c.args.operand) c.other-item.is (c.is_apart.ensures.0 c.if-not-is_apart.false))

pub returns : goal.returns
returns g c =
    list-true (g.T.Operand.apart c.args.model.now c.args.operand) c.args.others.now c.loop-other.other-index c.loop-other-test.false c.loop-other.invariant
