use Rattle.dl_io.proofs.PrintLemmas.{prints_failed, prints_then}
use Rattle.dl_stream.proofs.stream_text.put_commit.Goals as goal

pub returns-in_err-print_pieces : goal.returns-in_err-print_pieces
returns-in_err-print_pieces g c = prints_failed _ c.from_residual.ensures.0 c.in_err-print_pieces.ensures

pub returns-in_err-put_edits : goal.returns-in_err-put_edits
returns-in_err-put_edits g c =
    prints_then c.in_ok-print_pieces.ensures (prints_failed _ c.from_residual-in_err-put_edits.ensures.0 c.in_err-put_edits.ensures)

pub returns : goal.returns
returns g c = prints_then c.in_ok-print_pieces.ensures (prints_then c.in_ok-put_edits.ensures c.print_pieces-2.ensures)
