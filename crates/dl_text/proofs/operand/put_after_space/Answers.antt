use Rattle.dl_io.proofs.PrintLemmas.{prints_then}
use Rattle.dl_text.proofs.operand.put_after_space.Goals as goal

pub returns : goal.returns
returns g c = prints_then c.in_ok-print_pieces.ensures c.put.ensures
