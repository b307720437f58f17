use Rattle.dl_run.proofs.WordLemmas.{form_unique}
use Rattle.dl_run.proofs.laws.words_have_one_form_at_most.Goals as goal

pub returns : goal.returns
returns c = λ words form other one two. form_unique words form other one two
