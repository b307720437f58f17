use Rattle.dl_lex.proofs.Spelled.{keyword_of, keyword_found}
use Rattle.dl_lex.proofs.keyword.Keyword.of.Goals as goal

pub returns : goal.returns
unfolding keyword_of
returns c = rw c.first_spelled.ensures (keyword_found c.args.text.now)
