use Rattle.dl_io.proofs.PrintLemmas.{prints_failed, prints_then}
use Rattle.dl_text.proofs.pieces.put_variable.Goals as goal

pub returns-in_err-write : goal.returns-in_err-write
returns-in_err-write g c = prints_failed _ c.from_residual.ensures.0 c.in_err-write.ensures

pub returns : goal.returns
returns g c = prints_then c.in_ok-write.ensures c.put_number.ensures
