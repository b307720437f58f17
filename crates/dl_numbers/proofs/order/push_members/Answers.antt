use Rattle.std.proofs.Common.{◌≡◌, ◌++◌, ◌∷◌, [], length, get_or, ap, subst, ◌∙◌, append_assoc, arith}
use Rattle.dl_numbers.specs.DepthFirst.{AreExactly}
use Rattle.dl_numbers.specs.Places.{places}
use Rattle.dl_numbers.proofs.PlaceLemmas.{exactly_more, exactly_pass}
use Rattle.dl_numbers.proofs.order.push_members.Goals as goal
use Rattle.dl_numbers.proofs.order.push_members.Goals.{then-leaders-place+in_ok-push, else-leaders-place}

pub loop-place-preserved : goal.loop-place-preserved
loop-place-preserved c =
    let inv = c.loop-place.invariant in
    let place = c.loop-place.place in
    elim c.if-leaders-place.branch [
      | then-leaders-place+in_ok-push w ↦ (
        inv.0 ++ place ∷ [],
        exactly_more (λ k. get_or c.args.leaders.now k 0 ≡ c.args.class) place inv.0 inv.1 w.if-leaders-place.true,
        ap (λ v. v.items) w.found-is ∙ w.in_ok-push.ensures.items ∙ ap (λ xs. xs ++ place ∷ []) inv.2 ∙ append_assoc c.args.found.now.items inv.0 (place ∷ []),
      )
      | else-leaders-place w ↦ (
        inv.0,
        exactly_pass (λ k. get_or c.args.leaders.now k 0 ≡ c.args.class) place inv.0 inv.1 w.if-leaders-place.false,
        ap (λ v. v.items) w.found-is ∙ inv.2,
      )
    ]

pub returns : goal.returns
returns c =
    let inv = c.loop-place.invariant in
    let e : c.loop-place.place ≡ length c.args.leaders.now = (let end = c.loop-place-test.false in let most = c.loop-place.auto.place-end in omega (arith, end, most)) in
    (inv.0, subst (λ n. AreExactly (places n) (λ k. get_or c.args.leaders.now k 0 ≡ c.args.class) inv.0) e inv.1, inv.2)
