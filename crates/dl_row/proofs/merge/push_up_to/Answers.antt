use Rattle.std.proofs.Common.{get_or}
use Rattle.std.proofs.lemmas.List.{get_or_default}
use Rattle.dl_row.proofs.FindLemmas.{blank}
use Rattle.dl_row.proofs.MergeLemmas.{Catches-more, Catches-row}
use Rattle.dl_row.proofs.merge.push_up_to.Goals as goal

pub loop-merged-preserved : goal.loop-merged-preserved
loop-merged-preserved c =
    let new = c.args.new.now in
    let at = c.loop-merged.at in
    let less = c.loop-merged-test.ensures.yes in
    let x = get_or new at blank in
    Catches-more c.args.merged.now.items c.loop-merged.merged.items c.push.new.self.items new c.args.from at c.args.row.now x c.requires.new less
    (get_or_default new at blank x less.inside) c.in_ok-push.ensures.items c.loop-merged.invariant

pub returns-clause-written : goal.returns-clause-written
returns-clause-written c =
    Catches-row c.args.merged.now.items c.loop-merged.merged.items c.push-2.new.self.items c.args.new.now c.args.from c.loop-merged.at c.args.row.now c.requires.new
    c.loop-merged-test.ensures.no c.in_ok-push-2.ensures.items c.loop-merged.invariant
