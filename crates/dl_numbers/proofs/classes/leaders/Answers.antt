use Rattle.std.proofs.Common.{ℕ, ◌+◌, ◌≤◌, sym, subst}
use Rattle.dl_reach.specs.Digraph.{AreConnected}
use Rattle.dl_numbers.proofs.LoopLemmas.{AreTold, told_more}
use Rattle.dl_numbers.proofs.classes.leaders.Goals as goal

pub loop-place-preserved : goal.loop-place-preserved
loop-place-preserved c =
    let order = c.args.order.now in
    let place = c.loop-place.place in
    let found = c.loop-place.found.items in
    subst (AreTold 0 (λ k leader. AreConnected order k leader × ((other : ℕ) → AreConnected order k other → leader ≤ other)) (place + 1)) (sym c.in_ok-push.ensures.items)
    (told_more 0 (λ k leader. AreConnected order k leader × ((other : ℕ) → AreConnected order k other → leader ≤ other)) place found c.class_of.result
    c.loop-place.invariant (c.class_of.ensures.mutual, c.class_of.ensures.least))
