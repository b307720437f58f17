use Rattle.std.proofs.Common.{◌++◌, ◌∙◌, ap, sym}
use Rattle.std.proofs.lemmas.Result.{on_ok_weaker}
use Rattle.dl_terms.specs.NormalForm.{ring}
use Rattle.dl_normal.proofs.OperandLemmas.{links-all, ring-links}
use Rattle.dl_normal.proofs.operands.push_ring.Goals as goal

pub returns : goal.returns
returns g c =
    let first = c.in-Some.first.now in
    let rest = c.in-Some.rest.now in
    on_ok_weaker c.push-2.result (λ pushed.
    pushed ∙ sym (links-all c.loop-next.rows c.loop-next.one rest c.loop-next.next-index first c.loop-next-test.false) ∙ c.loop-next.invariant
    ∙ ap (λ l. c.args.rows.now ++ l) (sym (ring-links first rest)) ∙ ap (λ l. c.args.rows.now ++ ring l) (sym c.in-Some.ensures.cases.0))
    c.push-2.ensures.ok
