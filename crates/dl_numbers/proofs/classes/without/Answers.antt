use Rattle.std.proofs.Common.{◌+◌, sym, ap, subst, ◌∙◌, true≢false}
use Rattle.dl_numbers.proofs.LowestLemmas.{AreKept, kept_none, kept_more, kept_pass, kept_all}
use Rattle.dl_numbers.proofs.classes.without.Goals as goal
use Rattle.dl_numbers.proofs.classes.without.Goals.{then-is_beside+in_ok-push, else-is_beside}

pub loop-other-init : goal.loop-other-init
loop-other-init c =
    subst (AreKept c.args.order.now c.args.left.now c.args.lowest 0) (sym c.new-kept.ensures.items) (kept_none c.args.order.now c.args.left.now c.requires.ascending c.args.lowest)

pub loop-other-preserved : goal.loop-other-preserved
loop-other-preserved c =
    let order = c.args.order.now in
    let left = c.args.left.now in
    let i = c.loop-other.other-index in
    let kept = c.loop-other.kept.items in
    elim c.if-is_beside.branch [
      | then-is_beside+in_ok-push w ↦ subst (AreKept order left c.args.lowest (i + 1)) (sym (ap (λ v. v.items) w.kept-is ∙ w.in_ok-push.ensures.items))
          (kept_more order left c.requires.ascending c.args.lowest i kept c.loop-other-test.true c.loop-other.invariant (c.is_beside.ensures.0 w.if-is_beside.true))
      | else-is_beside w ↦ subst (AreKept order left c.args.lowest (i + 1)) (sym (ap (λ v. v.items) w.kept-is))
          (kept_pass order left c.requires.ascending c.args.lowest i kept c.loop-other.invariant (λ is. true≢false (sym (c.is_beside.ensures.1 is) ∙ w.if-is_beside.false)))
    ]

pub returns : goal.returns
returns c = kept_all c.args.order.now c.args.left.now c.requires.ascending c.args.lowest c.loop-other.other-index c.loop-other.kept.items
    c.loop-other.auto.other-index-end c.loop-other-test.false c.loop-other.invariant
