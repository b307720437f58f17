use Rattle.dl_rewrite.proofs.RewritingLemmas.{Certain-Rewriting}
use Rattle.dl_rewrite.proofs.laws.rewriting_is_exact.Goals as goal

pub returns : goal.returns
returns c = Certain-Rewriting
