use Rattle.std.proofs.Common.{ℕ}
use Rattle.dl_models.specs.Meaning.{RoleLinks}
use Rattle.dl_models.specs.Structures.{finite}
use Rattle.dl_models.proofs.LoopLemmas.{fails, more, any-false}
use Rattle.dl_models.proofs.elements.has_neighbour.Goals as goal

pub loop-y-preserved : goal.loop-y-preserved
loop-y-preserved c =
    more (λ (y : ℕ). ¬ RoleLinks (finite c.args.model.now) c.args.role c.args.x y) c.loop-y.y c.loop-y.invariant
    (fails c.role_links.result c.role_links.ensures c.if-role_links.false)

pub returns : goal.returns
returns c =
    any-false (λ (y : ℕ). RoleLinks (finite c.args.model.now) c.args.role c.args.x y) c.args.model.now.size c.loop-y.y c.loop-y-test.false c.loop-y.invariant
