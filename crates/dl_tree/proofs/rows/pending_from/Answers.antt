use Rattle.dl_tree.proofs.BitLemmas.{marked_next}
use Rattle.dl_tree.proofs.rows.pending_from.Goals as goal

pub loop-k-preserved : goal.loop-k-preserved
loop-k-preserved c =
    marked_next c.args.row.now c.args.done.now c.args.start c.loop-k.i c.in-Some.k c.loop-k.invariant c.in-Some.ensures.3 c.if-not-done-k.false
