use Rattle.dl_terms.proofs.OrderLemmas.{roles_linear}
use Rattle.dl_terms.proofs.DerivedLemmas.{roles}
use Rattle.dl_terms.proofs.order.roles_are_ordered.Goals as goal

pub returns-clause-derived : goal.returns-clause-derived
returns-clause-derived c = roles

pub returns-clause-total : goal.returns-clause-total
returns-clause-total c = roles_linear.total

pub returns-clause-equal : goal.returns-clause-equal
returns-clause-equal c = roles_linear.equal
