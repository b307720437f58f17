use Rattle.dl_core.proofs.ChangeLemmas.{here_is, not_here}
use Rattle.dl_core.proofs.committed_shard.place_here.Goals as goal

pub returns-then-first_end-shards : goal.returns-then-first_end-shards
returns-then-first_end-shards c =
    here_is c.args.root.now c.book-book.ensures.sound c.requires c.args.fact c.args.i c.first_end.result
    c.shards.result c.place_of.result
    c.first_end.ensures c.shards.ensures.count c.if-first_end-shards.true c.place_of.ensures

pub returns-else-first_end-shards : goal.returns-else-first_end-shards
returns-else-first_end-shards c =
    not_here c.args.root.now c.args.fact c.args.i c.first_end.result c.shards.result c.first_end.ensures
    c.shards.ensures.count c.if-first_end-shards.false
