use Rattle.std.proofs.Common.{ℕ}
use Rattle.dl_models.specs.Meaning.{IsInBasic, IsInPart}
use Rattle.std.specs.List.{All}
use Rattle.dl_models.specs.Structures.{finite}
use Rattle.dl_models.proofs.LoopLemmas.{fails, more, all-true, all-false}
use Rattle.dl_models.proofs.sets.is_within_parts.Goals as goal

pub returns-then-not-parts_follow : goal.returns-then-not-parts_follow
returns-then-not-parts_follow c =
    all-false (λ (x : ℕ). IsInBasic (finite c.args.model.now) c.args.basic x → All (IsInPart (finite c.args.model.now) x) c.args.parts.now) c.args.model.now.size c.loop-x.x c.loop-x-test.true
    (fails c.parts_follow.result c.parts_follow.ensures c.if-not-parts_follow.true)

pub loop-x-preserved : goal.loop-x-preserved
loop-x-preserved c =
    more (λ (x : ℕ). IsInBasic (finite c.args.model.now) c.args.basic x → All (IsInPart (finite c.args.model.now) x) c.args.parts.now) c.loop-x.x c.loop-x.invariant
    (c.parts_follow.ensures.0 c.if-not-parts_follow.false)

pub returns : goal.returns
returns c =
    all-true (λ (x : ℕ). IsInBasic (finite c.args.model.now) c.args.basic x → All (IsInPart (finite c.args.model.now) x) c.args.parts.now) c.args.model.now.size c.loop-x.x c.loop-x-test.false
    c.loop-x.invariant
