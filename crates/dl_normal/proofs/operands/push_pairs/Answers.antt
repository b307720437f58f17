use Rattle.dl_normal.proofs.OperandLemmas.{pairs-step}
use Rattle.dl_normal.proofs.operands.push_pairs.Goals as goal

pub loop-i-preserved : goal.loop-i-preserved
loop-i-preserved g c =
    pairs-step (λ p. (c.args.index, g.T.Operand.disjoint p.0 p.1)) _ c.loop-i.negatives c.push_disjoint.new.negatives c.args.items.now c.loop-i.i
    c.index-items-i.result c.loop-i-test.true c.index-items-i.is c.loop-i.invariant c.in_ok-push_disjoint.ensures
