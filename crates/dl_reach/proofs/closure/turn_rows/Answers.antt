use Rattle.std.proofs.Common.{length, get_or}
use Rattle.dl_reach.specs.Chain.{Chain}
use Rattle.dl_reach.specs.Digraph.{IsEdge}
use Rattle.dl_reach.proofs.BitPairs.{column_more}
use Rattle.dl_reach.proofs.closure.turn_rows.Goals as goal

pub loop-column-preserved : goal.loop-column-preserved
loop-column-preserved c =
    column_more c.args.width (length c.args.nodes.now) c.loop-column.column c.loop-column.words c.turn_row.new.words
    (λ a b. Chain (IsEdge c.args.closure.now) (get_or c.args.nodes.now b 0) (get_or c.args.nodes.now a 0))
    c.loop-column.invariant c.turn_row.ensures
