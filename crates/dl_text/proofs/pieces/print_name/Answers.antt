use Rattle.dl_text.proofs.ConstructLemmas.{name_printed}
use Rattle.dl_io.proofs.PrintLemmas.{prints_as, prints_failed, prints_then}
use Rattle.dl_text.proofs.pieces.print_name.Goals as goal

pub returns-in_err-write-2 : goal.returns-in_err-write-2
returns-in_err-write-2 g c =
    prints_as (name_printed c.args.names.now c.args.name c.text.result.now c.text.ensures)
    (prints_then c.in_ok-write.ensures (prints_failed _ c.from_residual-in_err-write-2.ensures.0 c.in_err-write-2.ensures))

pub returns : goal.returns
returns g c =
    prints_as (name_printed c.args.names.now c.args.name c.text.result.now c.text.ensures)
    (prints_then c.in_ok-write.ensures (prints_then c.in_ok-write-2.ensures c.write-3.ensures))
