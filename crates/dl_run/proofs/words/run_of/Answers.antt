use Rattle.dl_run.proofs.WordLemmas.{no_run}
use Rattle.dl_run.proofs.words.run_of.Goals as goal

pub returns-in_default : goal.returns-in_default
returns-in_default c = no_run _ c.in_default.ensures
