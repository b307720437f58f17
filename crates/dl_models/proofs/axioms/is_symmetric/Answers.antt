use Rattle.std.proofs.Common.{◌↔◌, ◌≡◌, true, subst}
use Rattle.dl_models.specs.Meaning.{RoleIsWithin}
use Rattle.dl_models.specs.Structures.{finite}
use Rattle.dl_models.proofs.AcceptLemmas.{same-test, symmetries}
use Rattle.dl_models.proofs.axioms.is_symmetric.Goals as goal

pub returns : goal.returns
returns c =
    same-test c.role_is_within.result (symmetries (finite c.args.model.now) c.args.role)
    (subst (λ s. (c.role_is_within.result ≡ true) ↔ RoleIsWithin (finite c.args.model.now) c.args.role s) c.inverse-inverse.ensures c.role_is_within.ensures)
