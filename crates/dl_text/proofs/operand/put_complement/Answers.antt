use Rattle.dl_text.specs.AxiomText.{basic_text}
use Rattle.dl_text.proofs.ConstructLemmas.{complement_printed}
use Rattle.dl_io.proofs.PrintLemmas.{prints_as, prints_failed, prints_then}
use Rattle.dl_text.proofs.operand.put_complement.Goals as goal

pub returns-in_err-print_pieces : goal.returns-in_err-print_pieces
returns-in_err-print_pieces g c =
    prints_as (complement_printed (basic_text c.args.names.now c.args.basic))
    (prints_failed _ c.from_residual.ensures.0 c.in_err-print_pieces.ensures)

pub returns-in_err-put : goal.returns-in_err-put
returns-in_err-put g c =
    prints_as (complement_printed (basic_text c.args.names.now c.args.basic))
    (prints_then c.in_ok-print_pieces.ensures (prints_failed _ c.from_residual-in_err-put.ensures.0 c.in_err-put.ensures))

pub returns : goal.returns
returns g c =
    prints_as (complement_printed (basic_text c.args.names.now c.args.basic))
    (prints_then c.in_ok-print_pieces.ensures (prints_then c.in_ok-put.ensures c.print_pieces-2.ensures))
