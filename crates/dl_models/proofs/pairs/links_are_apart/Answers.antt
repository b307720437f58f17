use Rattle.std.proofs.Common.{ℕ}
use Rattle.dl_models.specs.Meaning.{RoleLinks}
use Rattle.dl_models.specs.Structures.{finite}
use Rattle.dl_models.proofs.LoopLemmas.{fails, more, all-true, all-false}
use Rattle.dl_models.proofs.pairs.links_are_apart.Goals as goal

pub returns-then-not-link_is_not_both : goal.returns-then-not-link_is_not_both
returns-then-not-link_is_not_both c =
    all-false (λ (y : ℕ). RoleLinks (finite c.args.model.now) c.args.one c.args.x y → ¬ RoleLinks (finite c.args.model.now) c.args.two c.args.x y) c.args.model.now.size c.loop-y.y c.loop-y-test.true
    (fails c.link_is_not_both.result c.link_is_not_both.ensures c.if-not-link_is_not_both.true)

pub loop-y-preserved : goal.loop-y-preserved
loop-y-preserved c =
    more (λ (y : ℕ). RoleLinks (finite c.args.model.now) c.args.one c.args.x y → ¬ RoleLinks (finite c.args.model.now) c.args.two c.args.x y) c.loop-y.y c.loop-y.invariant
    (c.link_is_not_both.ensures.0 c.if-not-link_is_not_both.false)

pub returns : goal.returns
returns c =
    all-true (λ (y : ℕ). RoleLinks (finite c.args.model.now) c.args.one c.args.x y → ¬ RoleLinks (finite c.args.model.now) c.args.two c.args.x y) c.args.model.now.size c.loop-y.y c.loop-y-test.false
    c.loop-y.invariant
