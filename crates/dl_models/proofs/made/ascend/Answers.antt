use Rattle.dl_models.proofs.PartLemmas.{ascend-true, ascend-more}
use Rattle.dl_models.proofs.made.ascend.Goals as goal

pub loop-i-preserved : goal.loop-i-preserved
loop-i-preserved c = ascend-more c.args.pairs.now c.loop-i.i c.loop-i.invariant c.if-pairs-i.false c.loop-i.auto.i

pub returns : goal.returns
returns c = ascend-true c.args.pairs.now c.loop-i.i c.loop-i-test.false c.loop-i.invariant
