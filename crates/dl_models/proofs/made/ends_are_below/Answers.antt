use Rattle.std.proofs.Common.{ℕ, ◌<◌, arith}
use Rattle.dl_models.proofs.LoopLemmas.{All-more, list-true}
use Rattle.dl_models.proofs.made.ends_are_below.Goals as goal

pub loop-x-preserved : goal.loop-x-preserved
loop-x-preserved c =
    let low = c.if-max-bound.false in
    let top = c.max.ensures in
    All-more (λ (l : ℕ × ℕ × ℕ). (l.1 < c.args.bound) × (l.2 < c.args.bound)) c.args.links.now c.loop-x.x-index (0, 0, 0) c.loop-x-test.true
    c.loop-x.invariant (omega (arith, low, top), omega (arith, low, top))

pub returns : goal.returns
returns c =
    list-true (λ (l : ℕ × ℕ × ℕ). (l.1 < c.args.bound) × (l.2 < c.args.bound)) c.args.links.now c.loop-x.x-index c.loop-x-test.false c.loop-x.invariant
