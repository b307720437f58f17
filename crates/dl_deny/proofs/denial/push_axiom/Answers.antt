use Rattle.dl_deny.proofs.DenialLemmas.{found-all}
use Rattle.dl_deny.proofs.denial.push_axiom.Goals as goal

pub returns : goal.returns
returns c =
    found-all c.args.found.now c.loop-negative.found c.args.axiom.now c.from_ref.result.now c.in_ok-form.form c.as_slice-negative-items.result.now
    c.loop-negative.negative-index c.from_ref.ensures.value c.in_ok-form.ensures.rows c.as_slice-negative-items.ensures c.loop-negative-test.false
    c.loop-negative.invariant
