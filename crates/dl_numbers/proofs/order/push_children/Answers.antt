use Rattle.std.proofs.Common.{◌≡◌, ◌+◌, ◌-◌, ◌++◌, ◌∷◌, [], reverse, length, get_or, None, sym, ap, subst, ◌∙◌, append_assoc, arith}
use Rattle.dl_numbers.proofs.LoopLemmas.{AreFrom, from_more, from_pass, from_all}
use Rattle.dl_numbers.proofs.GrowLemmas.{reverse_front, option_same, option_other}
use Rattle.dl_numbers.proofs.order.push_children.Goals as goal
use Rattle.dl_numbers.proofs.order.push_children.Goals.{else-leaders-place-via-then-leaders-place+else-eq, else-leaders-place-via-else-leaders-place}

pub loop-place-preserved-then-eq : goal.loop-place-preserved-then-eq
loop-place-preserved-then-eq c =
    let inv = c.loop-place.invariant in
    let n = length c.args.leaders.now in
    let i = c.loop-place.place - 1 in
    let here : c.loop-place.place ≡ i + 1 = (let more = c.loop-place-test.true in omega (arith, more)) in
    let few = inv.1 in (
      (
        i ∷ inv.0.0,
        from_more n (λ k. (get_or c.args.leaders.now k 0 ≡ k) × (get_or c.args.parents.now k None ≡ c.args.parent)) i inv.0.0 (omega (arith, here, few))
            (subst (λ j. AreFrom n j (λ k. (get_or c.args.leaders.now k 0 ≡ k) × (get_or c.args.parents.now k None ≡ c.args.parent)) inv.0.0) here inv.0.1)
            (c.if-leaders-place.true, option_same (get_or c.args.parents.now i None) c.args.parent (sym c.eq.ensures ∙ c.if-eq.true)),
        c.in_ok-push.ensures.items ∙ ap (λ xs. xs ++ i ∷ []) inv.0.2 ∙ append_assoc c.args.waiting.now.items (reverse inv.0.0) (i ∷ [])
            ∙ ap (λ xs. c.args.waiting.now.items ++ xs) (sym (reverse_front i inv.0.0)),
      ),
      omega (arith, here, few),
    )

pub loop-place-preserved : goal.loop-place-preserved
loop-place-preserved c =
    let inv = c.loop-place.invariant in
    let n = length c.args.leaders.now in
    let i = c.loop-place.place - 1 in
    let here : c.loop-place.place ≡ i + 1 = (let more = c.loop-place-test.true in omega (arith, more)) in
    let few = inv.1 in
    let before = subst (λ j. AreFrom n j (λ k. (get_or c.args.leaders.now k 0 ≡ k) × (get_or c.args.parents.now k None ≡ c.args.parent)) inv.0.0) here inv.0.1 in
    let pass = from_pass n (λ k. (get_or c.args.leaders.now k 0 ≡ k) × (get_or c.args.parents.now k None ≡ c.args.parent)) i inv.0.0 before in
    elim c.else-leaders-place.branch [
      | else-leaders-place-via-then-leaders-place+else-eq w ↦ (
        (
          inv.0.0,
          pass (λ is. option_other (get_or c.args.parents.now i None) c.args.parent (sym w.eq.ensures ∙ w.if-eq.false) is.1),
          inv.0.2,
        ),
        omega (arith, here, few),
      )
      | else-leaders-place-via-else-leaders-place w ↦ ((inv.0.0, pass (λ is. w.if-leaders-place.false is.0), inv.0.2), omega (arith, here, few))
    ]

pub returns : goal.returns
returns c =
    let inv = c.loop-place.invariant in
    let n = length c.args.leaders.now in
    let zero_left : c.loop-place.place ≡ 0 = (let end = c.loop-place-test.false in omega (arith, end)) in (
      inv.0.0,
      from_all n (λ k. (get_or c.args.leaders.now k 0 ≡ k) × (get_or c.args.parents.now k None ≡ c.args.parent)) inv.0.0
          (subst (λ j. AreFrom n j (λ k. (get_or c.args.leaders.now k 0 ≡ k) × (get_or c.args.parents.now k None ≡ c.args.parent)) inv.0.0) zero_left inv.0.1),
      inv.0.2,
    )
