use Rattle.dl_stream.proofs.LineLemmas.{row_printed}
use Rattle.dl_io.proofs.PrintLemmas.{prints_as, prints_failed, prints_then}
use Rattle.dl_stream.proofs.reply.put_row.Goals as goal

pub returns-in_err-put_epoch : goal.returns-in_err-put_epoch
returns-in_err-put_epoch g c =
    prints_as (row_printed c.args.names.now c.args.current c.args.row.now) (prints_failed _ c.from_residual.ensures.0 c.in_err-put_epoch.ensures)

pub returns : goal.returns
returns g c =
    prints_as (row_printed c.args.names.now c.args.current c.args.row.now) (prints_then c.in_ok-put_epoch.ensures c.put_fact.ensures)
