use Rattle.dl_query.proofs.SeenFaultLemmas.{HasFault-seen}
use Rattle.dl_query.proofs.laws.faults_depend_on_what_is_read.Goals as goal

pub returns : goal.returns
returns c = HasFault-seen
