use Rattle.dl_stream.proofs.FactReadBack.{fact_is_read_back}
use Rattle.dl_stream.proofs.text_laws.facts_are_read_back.Goals as goal

pub returns : goal.returns
returns c = λ held fact distinct named. fact_is_read_back held distinct fact named
