use Rattle.std.proofs.Common.{ap, ◌∷◌}
use Rattle.dl_io.proofs.PrintLemmas.{prints_none, prints_next, prints_next_failed, prints_whole}
use Rattle.dl_text.proofs.operand.put_spaced.Goals as goal

pub loop-operand-init : goal.loop-operand-init
loop-operand-init g c = prints_none _

pub returns-in_err-put_after_space : goal.returns-in_err-put_after_space
returns-in_err-put_after_space g c =
    prints_next_failed (λ operand. 32 ∷ g.T.Operand.text c.args.names.now operand) c.args.operands.now c.loop-operand.operand-index _ c.loop-operand-test.true c.from_residual.ensures.0 (ap (λ operand. 32 ∷ g.T.Operand.text c.args.names.now operand) c.operand-item.is) c.loop-operand.invariant c.in_err-put_after_space.ensures

pub loop-operand-preserved : goal.loop-operand-preserved
loop-operand-preserved g c =
    prints_next (λ operand. 32 ∷ g.T.Operand.text c.args.names.now operand) c.args.operands.now c.loop-operand.operand-index _ c.loop-operand-test.true (ap (λ operand. 32 ∷ g.T.Operand.text c.args.names.now operand) c.operand-item.is) c.loop-operand.invariant c.in_ok-put_after_space.ensures

pub returns : goal.returns
returns g c = prints_whole (λ operand. 32 ∷ g.T.Operand.text c.args.names.now operand) c.args.operands.now c.loop-operand.operand-index c.loop-operand-test.false c.loop-operand.invariant
