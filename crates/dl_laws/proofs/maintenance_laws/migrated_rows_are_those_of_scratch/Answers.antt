use Rattle.dl_laws.proofs.ScratchLemmas.{legal_scratch, run_behind, left_scratch}
use Rattle.dl_laws.proofs.maintenance_laws.migrated_rows_are_those_of_scratch.Goals as goal

pub returns-clause-scratch : goal.returns-clause-scratch
returns-clause-scratch c = legal_scratch

pub returns-clause-stays : goal.returns-clause-stays
returns-clause-stays c = run_behind

pub returns-clause-left : goal.returns-clause-left
returns-clause-left c = left_scratch
