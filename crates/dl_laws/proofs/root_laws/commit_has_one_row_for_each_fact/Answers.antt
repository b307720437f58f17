use Rattle.dl_core.proofs.CommitLemmas.{committed_say, committed_keep}
use Rattle.dl_laws.proofs.root_laws.commit_has_one_row_for_each_fact.Goals as goal

pub returns-clause-now : goal.returns-clause-now
returns-clause-now c = committed_say

pub returns-clause-earlier : goal.returns-clause-earlier
returns-clause-earlier c = committed_keep
