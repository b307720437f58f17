use Rattle.std.proofs.Common.{◌↔◌, ◌≡◌, true, subst}
use Rattle.dl_models.specs.Meaning.{RoleIsApart}
use Rattle.dl_models.specs.Structures.{finite}
use Rattle.dl_models.proofs.AcceptLemmas.{same-test, asymmetries}
use Rattle.dl_models.proofs.axioms.is_asymmetric.Goals as goal

pub returns : goal.returns
returns c =
    same-test c.role_is_apart.result (asymmetries (finite c.args.model.now) c.args.role)
    (subst (λ s. (c.role_is_apart.result ≡ true) ↔ RoleIsApart (finite c.args.model.now) c.args.role s) c.inverse-inverse.ensures c.role_is_apart.ensures)
