use Rattle.std.proofs.Common.{◌+◌, sym, subst, ◌∙◌, true≢false}
use Rattle.dl_numbers.proofs.LowestLemmas.{IsLowSoFar, low_start, low_stays, low_taken, low_end}
use Rattle.dl_numbers.proofs.classes.one_lowest.Goals as goal
use Rattle.dl_numbers.proofs.classes.one_lowest.Goals.{then-is_above, else-is_above}

pub loop-place-init : goal.loop-place-init
loop-place-init c = low_start c.args.order.now c.args.left.now c.requires.within c.requires.some

pub loop-place-preserved : goal.loop-place-preserved
loop-place-preserved c =
    let order = c.args.order.now in
    let left = c.args.left.now in
    let i = c.loop-place.place-index in
    let lowest = c.loop-place.lowest in
    elim c.if-is_above.branch [
      | then-is_above w ↦ subst (IsLowSoFar order left (i + 1)) (sym w.lowest-is)
          (low_taken order left c.requires.within i lowest c.loop-place-test.true c.loop-place.invariant (c.is_above.ensures.0 w.if-is_above.true))
      | else-is_above w ↦ subst (IsLowSoFar order left (i + 1)) (sym w.lowest-is)
          (low_stays order left c.requires.within i lowest c.loop-place.invariant (λ is. true≢false (sym (c.is_above.ensures.1 is) ∙ w.if-is_above.false)))
    ]

pub returns : goal.returns
returns c = low_end c.args.order.now c.args.left.now c.requires.within c.loop-place.place-index c.loop-place.lowest c.loop-place-test.false c.loop-place.invariant
