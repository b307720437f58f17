use Rattle.dl_row.specs.Laws.{row_total}
use Rattle.dl_row.proofs.RowLemmas.{rows_linear}
use Rattle.dl_row.proofs.laws.rows_are_ordered.Goals as goal

pub returns : goal.returns
returns c = record { total = row_total; equal = rows_linear.equal }
