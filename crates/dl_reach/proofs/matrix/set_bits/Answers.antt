use Rattle.std.proofs.lemmas.List.{take_more, take_all}
use Rattle.dl_reach.proofs.Closing.{bits_more}
use Rattle.dl_reach.proofs.matrix.set_bits.Goals as goal

pub loop-pair-preserved : goal.loop-pair-preserved
loop-pair-preserved c = rw (take_more c.args.pairs.now c.loop-pair.pair-index (0, 0) c.loop-pair-test.true) (bits_more c.args.width c.args.words.now c.loop-pair.words c.set_bit.new.words _ _ c.loop-pair.invariant c.set_bit.ensures)

pub returns : goal.returns
returns c = rw (take_all c.loop-pair.pair-index c.args.pairs.now c.loop-pair-test.false) at c.loop-pair.invariant
