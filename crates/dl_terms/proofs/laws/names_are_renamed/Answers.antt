use Rattle.dl_terms.proofs.OccurringLemmas.{axiom_names-renamed, fact_names-renamed, query_names-renamed}
use Rattle.dl_terms.proofs.laws.names_are_renamed.Goals as goal

pub returns-clause-of_axiom : goal.returns-clause-of_axiom
returns-clause-of_axiom c = axiom_names-renamed

pub returns-clause-of_fact : goal.returns-clause-of_fact
returns-clause-of_fact c = fact_names-renamed

pub returns-clause-of_query : goal.returns-clause-of_query
returns-clause-of_query c = query_names-renamed
