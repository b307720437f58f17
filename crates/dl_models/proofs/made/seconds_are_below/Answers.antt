use Rattle.std.proofs.Common.{ℕ, ◌<◌}
use Rattle.dl_models.proofs.LoopLemmas.{All-more, list-true}
use Rattle.dl_models.proofs.made.seconds_are_below.Goals as goal

pub loop-pair-preserved : goal.loop-pair-preserved
loop-pair-preserved c =
    All-more (λ (p : ℕ × ℕ). p.1 < c.args.bound) c.args.pairs.now c.loop-pair.pair-index (0, 0) c.loop-pair-test.true c.loop-pair.invariant
    c.if-pair-bound.false

pub returns : goal.returns
returns c =
    list-true (λ (p : ℕ × ℕ). p.1 < c.args.bound) c.args.pairs.now c.loop-pair.pair-index c.loop-pair-test.false c.loop-pair.invariant
