use Rattle.std.proofs.Common.{◌≡◌, ◌+◌, sym, ap, subst, ◌∙◌, true≢false, arith}
use Rattle.dl_numbers.specs.DepthFirst.{AreExactly}
use Rattle.dl_numbers.specs.Places.{places, IsLeaderAbove}
use Rattle.dl_numbers.proofs.PlaceLemmas.{exactly_more, exactly_pass}
use Rattle.dl_numbers.proofs.classes.above.Goals as goal
use Rattle.dl_numbers.proofs.classes.above.Goals.{then-is_leader_above+in_ok-push, else-is_leader_above}

pub loop-other-preserved : goal.loop-other-preserved
loop-other-preserved c =
    let order = c.args.order.now in
    let leaders = c.args.leaders.now in
    let place = c.args.place in
    let other = c.loop-other.other in
    let found = c.loop-other.found.items in
    elim c.if-is_leader_above.branch [
      | then-is_leader_above+in_ok-push w ↦
          subst (AreExactly (places (other + 1)) (λ k. IsLeaderAbove order leaders k place)) (sym (ap (λ v. v.items) w.found-is ∙ w.in_ok-push.ensures.items))
          (exactly_more (λ k. IsLeaderAbove order leaders k place) other found c.loop-other.invariant (c.is_leader_above.ensures.0 w.if-is_leader_above.true))
      | else-is_leader_above w ↦ subst (AreExactly (places (other + 1)) (λ k. IsLeaderAbove order leaders k place)) (sym (ap (λ v. v.items) w.found-is))
          (exactly_pass (λ k. IsLeaderAbove order leaders k place) other found c.loop-other.invariant
          (λ is. true≢false (sym (c.is_leader_above.ensures.1 is) ∙ w.if-is_leader_above.false)))
    ]

pub returns : goal.returns
returns c =
    let e : c.loop-other.other ≡ c.args.order.now.nodes = (let end = c.loop-other-test.false in let most = c.loop-other.auto.other-end in let is = c.nodes-other-end.ensures.count in omega (arith, end, most, is)) in
    subst (λ n. AreExactly (places n) (λ k. IsLeaderAbove c.args.order.now c.args.leaders.now k c.args.place) c.loop-other.found.items) e c.loop-other.invariant
