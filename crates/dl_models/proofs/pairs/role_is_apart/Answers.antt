use Rattle.std.proofs.Common.{ℕ, ◌<◌}
use Rattle.dl_models.specs.Meaning.{RoleLinks}
use Rattle.dl_models.specs.Structures.{finite}
use Rattle.dl_models.proofs.LoopLemmas.{fails, more, two-true, two-false}
use Rattle.dl_models.proofs.pairs.role_is_apart.Goals as goal

pub returns-then-not-links_are_apart : goal.returns-then-not-links_are_apart
returns-then-not-links_are_apart c =
    two-false (λ (x y : ℕ). RoleLinks (finite c.args.model.now) c.args.one x y → ¬ RoleLinks (finite c.args.model.now) c.args.two x y) c.args.model.now.size c.loop-x.x c.loop-x-test.true
    (fails c.links_are_apart.result c.links_are_apart.ensures c.if-not-links_are_apart.true)

pub loop-x-preserved : goal.loop-x-preserved
loop-x-preserved c =
    more (λ (x : ℕ). (y : ℕ) → y < c.args.model.now.size → RoleLinks (finite c.args.model.now) c.args.one x y → ¬ RoleLinks (finite c.args.model.now) c.args.two x y)
    c.loop-x.x c.loop-x.invariant (c.links_are_apart.ensures.0 c.if-not-links_are_apart.false)

pub returns : goal.returns
returns c =
    two-true (λ (x y : ℕ). RoleLinks (finite c.args.model.now) c.args.one x y → ¬ RoleLinks (finite c.args.model.now) c.args.two x y) c.args.model.now.size c.loop-x.x c.loop-x-test.false
    c.loop-x.invariant
