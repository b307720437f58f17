use Rattle.dl_io.proofs.PrintLemmas.{prints_failed, prints_then}
use Rattle.dl_run.proofs.output.put_answers.Goals as goal

pub returns-in_err-print_pieces : goal.returns-in_err-print_pieces
returns-in_err-print_pieces g c = prints_failed _ c.from_residual.ensures.0 c.in_err-print_pieces.ensures

pub returns : goal.returns
returns g c = prints_then c.in_ok-print_pieces.ensures c.put_answer.ensures
