use Rattle.dl_terms.proofs.OrderLemmas.{fact_cmp_total, fact_cmp-equal}
use Rattle.dl_terms.proofs.order.facts_are_ordered.Goals as goal

pub returns-clause-total : goal.returns-clause-total
returns-clause-total c = fact_cmp_total

pub returns-clause-equal : goal.returns-clause-equal
returns-clause-equal c = fact_cmp-equal
