use Rattle.dl_run.proofs.WordLemmas.{no_answer}
use Rattle.dl_run.proofs.words.answer_of.Goals as goal

pub returns-in_default : goal.returns-in_default
returns-in_default c = no_answer _ c.in_default.ensures
