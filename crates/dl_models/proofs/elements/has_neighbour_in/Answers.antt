use Rattle.std.proofs.Common.{ℕ}
use Rattle.dl_models.specs.Meaning.{RoleLinks}
use Rattle.std.proofs.Common.{sym, true≢false, arith}
use Rattle.std.specs.List.{Contains}
use Rattle.dl_models.specs.Structures.{finite}
use Rattle.dl_models.proofs.LoopLemmas.{fails, more}
use Rattle.dl_models.proofs.elements.has_neighbour_in.Goals as goal

pub loop-y-preserved : goal.loop-y-preserved
loop-y-preserved c =
    more (λ (y : ℕ). ¬ (RoleLinks (finite c.args.model.now) c.args.role c.args.x y × Contains c.args.model.now.classes (c.args.class, y))) c.loop-y.y
    c.loop-y.invariant (fails c.links_into.result c.links_into.ensures c.if-links_into.false)

pub returns : goal.returns
returns c =
    let long = c.loop-y-test.false in
    (λ e. absurd (true≢false (sym e)), λ h. absurd (c.loop-y.invariant h.0 (let lt = h.1 in omega (arith, lt, long)) (h.2, h.3)))
