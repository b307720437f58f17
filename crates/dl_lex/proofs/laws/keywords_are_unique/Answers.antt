use Rattle.dl_lex.proofs.Spelled.{keyword_unique}
use Rattle.dl_lex.proofs.laws.keywords_are_unique.Goals as goal

pub returns : goal.returns
returns c = keyword_unique
