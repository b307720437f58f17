use Rattle.dl_core.proofs.RunLemmas.{loaded_stands, next_keeps, legal_stands}
use Rattle.dl_laws.proofs.root_laws.roots_stand_for_histories.Goals as goal

pub returns-clause-load : goal.returns-clause-load
returns-clause-load c = loaded_stands

pub returns-clause-next : goal.returns-clause-next
returns-clause-next c = next_keeps

pub returns-clause-legal : goal.returns-clause-legal
returns-clause-legal c = legal_stands
