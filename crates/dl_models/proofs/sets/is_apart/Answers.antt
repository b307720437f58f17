use Rattle.std.proofs.Common.{ℕ}
use Rattle.dl_models.specs.Meaning.{IsInBasic}
use Rattle.dl_models.specs.Structures.{finite}
use Rattle.dl_models.proofs.LoopLemmas.{fails, more, all-true, all-false}
use Rattle.dl_models.proofs.sets.is_apart.Goals as goal

pub returns-then-not-is_not_both : goal.returns-then-not-is_not_both
returns-then-not-is_not_both c =
    all-false (λ (x : ℕ). IsInBasic (finite c.args.model.now) c.args.one x → ¬ IsInBasic (finite c.args.model.now) c.args.two x) c.args.model.now.size c.loop-x.x c.loop-x-test.true
    (fails c.is_not_both.result c.is_not_both.ensures c.if-not-is_not_both.true)

pub loop-x-preserved : goal.loop-x-preserved
loop-x-preserved c =
    more (λ (x : ℕ). IsInBasic (finite c.args.model.now) c.args.one x → ¬ IsInBasic (finite c.args.model.now) c.args.two x) c.loop-x.x c.loop-x.invariant
    (c.is_not_both.ensures.0 c.if-not-is_not_both.false)

pub returns : goal.returns
returns c =
    all-true (λ (x : ℕ). IsInBasic (finite c.args.model.now) c.args.one x → ¬ IsInBasic (finite c.args.model.now) c.args.two x) c.args.model.now.size c.loop-x.x c.loop-x-test.false
    c.loop-x.invariant
