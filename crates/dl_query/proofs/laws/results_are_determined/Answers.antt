use Rattle.dl_query.proofs.ResultLemmas.{value-one, fault-one, not-both, some-result}
use Rattle.dl_query.proofs.laws.results_are_determined.Goals as goal

pub returns : goal.returns
returns c = record { one_value = value-one; one_fault = fault-one; not_both = not-both; some = some-result }
