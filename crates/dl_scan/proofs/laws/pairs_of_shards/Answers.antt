use Rattle.dl_scan.proofs.BelowLemmas.{pair-append}
use Rattle.dl_scan.proofs.laws.pairs_of_shards.Goals as goal

pub returns : goal.returns
returns c = pair-append
