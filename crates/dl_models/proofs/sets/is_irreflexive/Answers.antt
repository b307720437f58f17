use Rattle.std.proofs.Common.{ℕ}
use Rattle.dl_models.specs.Meaning.{RoleLinks}
use Rattle.dl_models.specs.Structures.{finite}
use Rattle.dl_models.proofs.LoopLemmas.{fails, more, all-true, all-false}
use Rattle.dl_models.proofs.sets.is_irreflexive.Goals as goal

pub returns-then-role_links : goal.returns-then-role_links
returns-then-role_links c =
    all-false (λ (x : ℕ). ¬ RoleLinks (finite c.args.model.now) c.args.role x x) c.args.model.now.size c.loop-x.x c.loop-x-test.true
    (λ never. never (c.role_links.ensures.0 c.if-role_links.true))

pub loop-x-preserved : goal.loop-x-preserved
loop-x-preserved c =
    more (λ (x : ℕ). ¬ RoleLinks (finite c.args.model.now) c.args.role x x) c.loop-x.x c.loop-x.invariant
    (fails c.role_links.result c.role_links.ensures c.if-role_links.false)

pub returns : goal.returns
returns c =
    all-true (λ (x : ℕ). ¬ RoleLinks (finite c.args.model.now) c.args.role x x) c.args.model.now.size c.loop-x.x c.loop-x-test.false c.loop-x.invariant
