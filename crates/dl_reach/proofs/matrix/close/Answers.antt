use Rattle.std.proofs.Common.{◌<◌, arith, sum}
use Rattle.dl_reach.proofs.Closing.{Extends-refl, Extends-trans, less_room}
use Rattle.dl_reach.proofs.matrix.close.Goals as goal

pub loop-init : goal.loop-init
loop-init c = Extends-refl c.args.width c.args.words.now

pub loop-smaller : goal.loop-smaller
loop-smaller c =
    let rises : sum c.loop.words < sum c.follow_all.new.words = c.loop-test.ensures.changed in
    less_room c.loop.words c.follow_all.new.words c.follow_all.auto.words (λ k. let fits = c.type_inv.words k in omega arith) rises

pub loop-preserved : goal.loop-preserved
loop-preserved c = Extends-trans c.args.width c.args.words.now c.loop.words c.follow_all.new.words c.loop.invariant c.follow_all.ensures.extends
