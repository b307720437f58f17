use Rattle.dl_examples.proofs.NumberExampleLemmas.{two_parents, a_cycle}
use Rattle.dl_examples.proofs.numbers.number_examples.Goals as goal

pub returns-clause-two_parents : goal.returns-clause-two_parents
returns-clause-two_parents c = two_parents

pub returns-clause-a_cycle : goal.returns-clause-a_cycle
returns-clause-a_cycle c = a_cycle
