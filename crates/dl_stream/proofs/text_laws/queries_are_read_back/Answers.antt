use Rattle.dl_stream.proofs.QueryReadBack.{query_is_read_back}
use Rattle.dl_stream.proofs.text_laws.queries_are_read_back.Goals as goal

pub returns : goal.returns
returns c =
    λ bytes before names held query number value few distinct room stands.
    query_is_read_back held names distinct number query bytes before value room few stands
