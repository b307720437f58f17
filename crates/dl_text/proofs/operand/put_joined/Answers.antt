use Rattle.dl_text.proofs.ConstructLemmas.{joined_printed}
use Rattle.dl_io.proofs.PrintLemmas.{prints_as, prints_then}
use Rattle.dl_text.proofs.operand.put_joined.Goals as goal

pub returns : goal.returns
returns g c =
    prints_as (joined_printed (g.T.Operand.text c.args.names.now) _ c.args.operands.now c.in-len1-up.len_at_least c.first-item.is)
    (prints_then c.in_ok-put.ensures c.put_spaced.ensures)
