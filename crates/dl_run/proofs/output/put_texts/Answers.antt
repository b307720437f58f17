use Rattle.std.proofs.Common.{refl}
use Rattle.dl_io.proofs.PrintLemmas.{prints_none, prints_next, prints_next_failed, prints_whole}
use Rattle.dl_run.proofs.output.put_texts.Goals as goal

pub loop-text-init : goal.loop-text-init
loop-text-init g c = prints_none _

pub returns-in_err-put_text : goal.returns-in_err-put_text
returns-in_err-put_text g c =
    prints_next_failed (λ text. text.now) c.args.texts.now c.loop-text.text-index _ c.loop-text-test.true c.from_residual.ensures.0 refl c.loop-text.invariant c.in_err-put_text.ensures

pub loop-text-preserved : goal.loop-text-preserved
loop-text-preserved g c =
    prints_next (λ text. text.now) c.args.texts.now c.loop-text.text-index _ c.loop-text-test.true refl c.loop-text.invariant c.in_ok-put_text.ensures

pub returns : goal.returns
returns g c = prints_whole (λ text. text.now) c.args.texts.now c.loop-text.text-index c.loop-text-test.false c.loop-text.invariant
