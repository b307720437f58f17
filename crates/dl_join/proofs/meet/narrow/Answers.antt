use Rattle.std.proofs.Common.{take, get_or, refl, arith}
use Rattle.std.proofs.lemmas.List.{take_more}
use Rattle.dl_join.proofs.NarrowLemmas.{no_need, narrowed_need, AddsNarrowed-skip, AddsNarrowed-push}
use Rattle.dl_join.proofs.meet.narrow.Goals as goal
use Rattle.dl_join.proofs.meet.narrow.Goals.{in-Some+in_ok-push, in_default}

pub loop-need-preserved : goal.loop-need-preserved
loop-need-preserved c =
    let needs = c.args.needs.now in
    let k = c.loop-need.need-index in
    let a = get_or needs k no_need in
    let old = c.args.narrowed.now.items in
    rw (take_more needs k no_need c.loop-need-test.true) (elim c.match-need.branch [
      | in-Some+in_ok-push w ↦
          rw (w.narrowed-is, w.in_ok-push.ensures.items) (AddsNarrowed-push c.args.name (take k needs) old c.loop-need.narrowed.items a _
          (narrowed_need c.args.name w.passed-run.result w.in-Some.other a _ (c.requires k no_need c.loop-need-test.true) w.in-Some.is (rw w.from.ensures at w.passed-run.ensures.below) (rw w.from.ensures at w.passed-run.ensures.others) refl refl refl (grind arith))
          c.loop-need.invariant)
      | in_default w ↦ rw w.narrowed-is (AddsNarrowed-skip c.args.name (take k needs) old c.loop-need.narrowed.items a w.in_default.not-Some c.loop-need.invariant)
    ])
