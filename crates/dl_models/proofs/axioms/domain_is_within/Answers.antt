use Rattle.dl_models.specs.Structures.{finite}
use Rattle.dl_models.proofs.AcceptLemmas.{same-test, domains}
use Rattle.dl_models.proofs.axioms.domain_is_within.Goals as goal

pub returns : goal.returns
returns c = same-test c.is_within_parts.result (domains (finite c.args.model.now) c.args.role c.args.parts.now) c.is_within_parts.ensures
