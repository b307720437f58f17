use Rattle.std.proofs.Common.{sym, subst}
use Rattle.dl_tree.specs.Rows.{TellsRow}
use Rattle.dl_tree.proofs.AskLemmas.{met_tells}
use Rattle.dl_tree.proofs.folds.both.Goals as goal

pub returns : goal.returns
returns c =
    subst (TellsRow c.args.places _) (sym c.of.ensures)
    (met_tells c.args.rows.now c.args.places c.args.one c.args.other c.row_at.result.now c.row_at-2.result.now c.in_ok-row.row.items c.meet.new.row.items
    c.in_ok-row.ensures c.meet.ensures.len c.meet.ensures.bits c.row_at.ensures c.row_at-2.ensures)
