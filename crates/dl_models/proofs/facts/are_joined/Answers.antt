use Rattle.std.proofs.Common.{ℕ, subst}
use Rattle.std.specs.List.{Contains}
use Rattle.dl_models.proofs.AcceptLemmas.{joined-from, joined-to, joined-some}
use Rattle.dl_models.proofs.facts.are_joined.Goals as goal

pub returns-in_default : goal.returns-in_default
returns-in_default c =
    joined-from c.args.model.now c.args.role c.args.from c.args.to
    (subst (λ l. (x : ℕ) → ¬ Contains l (c.args.from, x)) c.as_slice.ensures c.in_default.ensures)

pub returns-in_default-look_up : goal.returns-in_default-look_up
returns-in_default-look_up c =
    joined-to c.args.model.now c.args.role c.args.from c.args.to
    (subst (λ l. (x : ℕ) → ¬ Contains l (c.args.to, x)) c.as_slice-2.ensures c.in_default-look_up.ensures)

pub returns : goal.returns
returns c =
    joined-some c.args.model.now c.args.role c.args.from c.args.to c.in-Some.x c.in-Some-look_up.y c.is_link.result
    (subst (λ l. Contains l (c.args.from, c.in-Some.x)) c.as_slice.ensures c.in-Some.ensures)
    (subst (λ l. Contains l (c.args.to, c.in-Some-look_up.y)) c.as_slice-2.ensures c.in-Some-look_up.ensures) c.is_link.ensures
