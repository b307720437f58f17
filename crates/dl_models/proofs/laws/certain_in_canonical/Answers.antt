use Rattle.dl_models.specs.Structures.{canonical}
use Rattle.dl_models.proofs.HomomorphismLemmas.{certain-holds}
use Rattle.dl_models.proofs.CanonicalLemmas.{identity, facts_hold, holds-certain}
use Rattle.dl_models.proofs.laws.certain_in_canonical.Goals as goal

pub returns : goal.returns
returns c =
    let axioms = c.args.axioms.now in
    let facts = c.args.facts.now in (
      certain-holds (canonical axioms facts) axioms facts (facts_hold axioms facts) (λ z. z) (identity axioms facts) c.args.query.now c.args.tuple.now
          c.requires,
      holds-certain axioms facts c.args.query.now c.args.tuple.now,
    )
