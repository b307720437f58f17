use Rattle.dl_terms.proofs.AuxiliaryLemmas.{row_allowed, auxiliary_of-injective, renamed_axiom-named}
use Rattle.dl_terms.proofs.laws.auxiliaries_stand_for_some_in.Goals as goal

pub returns-clause-rows : goal.returns-clause-rows
returns-clause-rows c = row_allowed

pub returns-clause-one_each : goal.returns-clause-one_each
returns-clause-one_each c = auxiliary_of-injective

pub returns-clause-renamed : goal.returns-clause-renamed
returns-clause-renamed c = renamed_axiom-named
