use Rattle.dl_io.proofs.PrintLemmas.{prints_failed, prints_then}
use Rattle.dl_text.proofs.answers.put_tuple.Goals as goal

pub returns-in_err-print_pieces : goal.returns-in_err-print_pieces
returns-in_err-print_pieces g c = prints_failed _ c.from_residual.ensures.0 c.in_err-print_pieces.ensures

pub returns-in_err-put_names : goal.returns-in_err-put_names
returns-in_err-put_names g c =
    prints_then c.in_ok-print_pieces.ensures (prints_failed _ c.from_residual-in_err-put_names.ensures.0 c.in_err-put_names.ensures)

pub returns : goal.returns
returns g c = prints_then c.in_ok-print_pieces.ensures (prints_then c.in_ok-put_names.ensures c.print_pieces-2.ensures)
