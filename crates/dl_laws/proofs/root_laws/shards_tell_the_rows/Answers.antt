use Rattle.dl_core.proofs.ShardLemmas.{shard-committed, shards_together, shards_determine}
use Rattle.dl_laws.proofs.root_laws.shards_tell_the_rows.Goals as goal

pub returns-clause-committed : goal.returns-clause-committed
returns-clause-committed c = shard-committed

pub returns-clause-together : goal.returns-clause-together
returns-clause-together c = shards_together

pub returns-clause-determine : goal.returns-clause-determine
returns-clause-determine c = shards_determine
