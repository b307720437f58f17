use Rattle.dl_reach.proofs.Matrices.{United-rose, United-same, HasBit-united}
use Rattle.dl_reach.proofs.matrix.unite.Goals as goal
use Rattle.dl_reach.proofs.matrix.unite.Goals.{then-both-old, else-both-old}

pub loop-i-preserved : goal.loop-i-preserved
loop-i-preserved c =
    elim c.if-both-old.branch [ then-both-old w ↦ rw w.changed-is (United-rose c.args.width c.args.into c.args.from c.requires.apart c.args.words.now c.requires.into c.loop-i.words c.loop-i.i c.loop-i.changed c.loop-i.invariant c.loop-i-test.true w.if-both-old.true) | else-both-old w ↦ rw w.changed-is (United-same c.args.width c.args.into c.args.from c.requires.apart c.args.words.now c.requires.into c.loop-i.words c.loop-i.i c.loop-i.changed c.loop-i.invariant c.loop-i-test.true w.if-both-old.false) ]

pub returns-clause-bits : goal.returns-clause-bits
returns-clause-bits c = HasBit-united c.args.width c.args.into c.args.from c.args.words.now c.loop-i.words c.loop-i.i c.loop-i.changed c.loop-i.invariant c.loop-i-test.false
