use Rattle.dl_core.proofs.FoundLemmas.{shard_is, none_more, place_found, place_missing}
use Rattle.dl_core.proofs.found.place_of.Goals as goal

pub returns-in-Some : goal.returns-in-Some
returns-in-Some c =
    let root = c.args.root.now in
    let rows = c.shard-shard.result.now in
    let are = shard_is root c.args.fact c.first_end.result c.shards.result rows c.first_end.ensures
    c.shards.ensures.count c.shard-shard.ensures in
    place_found c.args.fact rows c.entries-entries.result.now root c.book-book.result.now c.book-book.ensures.book
    c.book-book.ensures.sound
    c.entries-entries.ensures.entries are c.loop-entry.entry-index c.entry-item.result c.deref.result.now
    c.in-Some.place c.loop-entry-test.true
    c.entry-item.is c.deref.ensures c.in-Some.ensures

pub loop-entry-preserved : goal.loop-entry-preserved
loop-entry-preserved c =
    none_more c.args.fact c.shard-shard.result.now c.entries-entries.result.now c.loop-entry.entry-index
    c.entry-item.result c.deref.result.now
    c.loop-entry-test.true c.entry-item.is c.deref.ensures c.in_default.ensures c.loop-entry.invariant

pub returns : goal.returns
returns c =
    let root = c.args.root.now in
    let rows = c.shard-shard.result.now in
    let are = shard_is root c.args.fact c.first_end.result c.shards.result rows c.first_end.ensures
    c.shards.ensures.count c.shard-shard.ensures in
    place_missing c.args.fact rows c.entries-entries.result.now root c.book-book.result.now c.book-book.ensures.book
    c.book-book.ensures.sound
    c.entries-entries.ensures.entries are c.loop-entry.entry-index c.loop-entry-test.false c.loop-entry.invariant
