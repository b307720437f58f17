use Rattle.dl_reach.proofs.Matrices.{HasBit-set}
use Rattle.dl_reach.proofs.matrix.set_bit.Goals as goal

pub returns : goal.returns
returns c = HasBit-set c.args.words.now c.args.width c.args.row c.args.column c.requires.row c.requires.column
