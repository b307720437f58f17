use Rattle.dl_core.proofs.RunLemmas.{commits_to-more, replies_determined}
use Rattle.dl_laws.proofs.root_laws.versions_stay.Goals as goal

pub returns-clause-versions : goal.returns-clause-versions
returns-clause-versions c = commits_to-more

pub returns-clause-replies : goal.returns-clause-replies
returns-clause-replies c = replies_determined
