use Rattle.std.proofs.Common.{◌↔◌, ◌≡◌, true, subst}
use Rattle.dl_models.specs.Meaning.{RoleIsWithin}
use Rattle.dl_models.specs.Structures.{finite}
use Rattle.dl_models.proofs.AcceptLemmas.{both-first, both-second, same-test, inverses}
use Rattle.dl_models.proofs.axioms.are_inverse.Goals as goal

pub returns-then-to : goal.returns-then-to
returns-then-to c =
    same-test c.role_is_within-back.result (inverses (finite c.args.model.now) c.args.one c.args.two)
    (subst (λ s. (c.role_is_within-back.result ≡ true) ↔ (RoleIsWithin (finite c.args.model.now) c.args.one s × RoleIsWithin (finite c.args.model.now) s c.args.one)) c.inverse-inverse.ensures
    (both-second c.role_is_within-back.result (c.role_is_within-to.ensures.0 c.if-to.true) c.role_is_within-back.ensures))

pub returns-else-to : goal.returns-else-to
returns-else-to c =
    same-test c.role_is_within-to.result (inverses (finite c.args.model.now) c.args.one c.args.two)
    (subst (λ s. (c.role_is_within-to.result ≡ true) ↔ (RoleIsWithin (finite c.args.model.now) c.args.one s × RoleIsWithin (finite c.args.model.now) s c.args.one)) c.inverse-inverse.ensures
    (both-first c.role_is_within-to.result c.role_is_within-to.ensures c.if-to.false))
