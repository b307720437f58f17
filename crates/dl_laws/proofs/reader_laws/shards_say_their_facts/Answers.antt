use Rattle.dl_core.proofs.PinnedShardLemmas.{shard_says}
use Rattle.dl_laws.proofs.reader_laws.shards_say_their_facts.Goals as goal

pub returns : goal.returns
returns c = shard_says
