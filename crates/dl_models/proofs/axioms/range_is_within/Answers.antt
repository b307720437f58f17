use Rattle.std.proofs.Common.{◌↔◌, ◌≡◌, true, subst}
use Rattle.dl_terms.specs.declared.role.Basic.TheVariants.{SomeOf}
use Rattle.dl_terms.specs.declared.axiom.Axiom.TheVariants.{SubClass}
use Rattle.dl_models.specs.Meaning.{Accepts}
use Rattle.dl_models.specs.Structures.{finite}
use Rattle.dl_models.proofs.AcceptLemmas.{same-test, ranges}
use Rattle.dl_models.proofs.axioms.range_is_within.Goals as goal

pub returns : goal.returns
returns c =
    same-test c.is_within_parts.result (ranges (finite c.args.model.now) c.args.role c.args.parts.now)
    (subst (λ s. (c.is_within_parts.result ≡ true) ↔ Accepts (finite c.args.model.now) (SubClass (SomeOf s) c.args.parts.now)) c.inverse-inverse.ensures
    c.is_within_parts.ensures)
