use Rattle.dl_laws.proofs.InUseLemmas.{remaining_in_use, in_use_remains, answered_unused, unused_answered}
use Rattle.dl_laws.proofs.maintenance_laws.epochs_in_use_remain.Goals as goal

pub returns-clause-each : goal.returns-clause-each
returns-clause-each c = remaining_in_use

pub returns-clause-all : goal.returns-clause-all
returns-clause-all c = in_use_remains

pub returns-clause-answered : goal.returns-clause-answered
returns-clause-answered c = answered_unused

pub returns-clause-unused : goal.returns-clause-unused
returns-clause-unused c = unused_answered
