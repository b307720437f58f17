use Rattle.dl_join.proofs.OrderLemmas.{turned_set}
use Rattle.dl_join.proofs.turn.turned.Goals as goal

pub returns : goal.returns
returns c = turned_set c.args.pairs.now c.set_of.result (rw (c.of.ensures, c.in_ok-pairs.ensures) at c.set_of.ensures)
