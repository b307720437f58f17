use Rattle.dl_models.proofs.CanonicalLemmas.{facts_hold}
use Rattle.dl_models.proofs.BrokenLemmas.{first_refused, all_but_nothing}
use Rattle.dl_models.proofs.laws.broken_axiom_is_first.Goals as goal

pub returns : goal.returns
returns c =
    let axioms = c.args.axioms.now in
    let facts = c.args.facts.now in
    record {
      facts = facts_hold axioms facts;
      named = first_refused axioms facts c.args.nothing c.requires;
      unnamed = all_but_nothing axioms facts c.args.nothing c.requires;
    }
