use Rattle.std.proofs.Common.{ℕ, subst}
use Rattle.std.specs.List.{Contains}
use Rattle.dl_models.proofs.AcceptLemmas.{member-none, member-some}
use Rattle.dl_models.proofs.facts.is_member.Goals as goal

pub returns-in_default : goal.returns-in_default
returns-in_default c =
    member-none c.args.model.now c.args.class c.args.who
    (subst (λ l. (x : ℕ) → ¬ Contains l (c.args.who, x)) c.as_slice.ensures c.in_default.ensures)

pub returns : goal.returns
returns c =
    member-some c.args.model.now c.args.class c.args.who c.in-Some.x c.is_in.result
    (subst (λ l. Contains l (c.args.who, c.in-Some.x)) c.as_slice.ensures c.in-Some.ensures) c.is_in.ensures
