use Rattle.std.proofs.Common.{[], arith}
use Rattle.dl_row.proofs.OrderedLemmas.{length-left_from_le}
use Rattle.bench_facts.proofs.rows.changed.Goals as goal

pub with-requires-clause-fits : goal.with-requires-clause-fits
with-requires-clause-fits c = let shorter = length-left_from_le 0 [] c.args.shard.now in omega arith
