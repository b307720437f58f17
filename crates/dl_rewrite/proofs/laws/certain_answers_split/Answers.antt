use Rattle.dl_rewrite.proofs.CertainLemmas.{Certain-Where}
use Rattle.dl_rewrite.proofs.laws.certain_answers_split.Goals as goal

pub returns : goal.returns
returns c = Certain-Where
