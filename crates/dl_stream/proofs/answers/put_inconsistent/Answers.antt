use Rattle.dl_io.proofs.PrintLemmas.{prints_as, prints_failed, prints_then}
use Rattle.dl_stream.proofs.LineLemmas.{asked_printed}
use Rattle.dl_stream.proofs.answers.put_inconsistent.Goals as goal

pub returns-in_err-put_asked : goal.returns-in_err-put_asked
returns-in_err-put_asked g c =
    prints_as (asked_printed c.args.place c.args.version _) (prints_failed _ c.from_residual.ensures.0 c.in_err-put_asked.ensures)

pub returns : goal.returns
returns g c = prints_as (asked_printed c.args.place c.args.version _) (prints_then c.in_ok-put_asked.ensures c.print_inconsistent.ensures)
