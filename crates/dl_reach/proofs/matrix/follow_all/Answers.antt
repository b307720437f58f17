use Rattle.std.proofs.lemmas.List.{take_more, take_all}
use Rattle.dl_reach.proofs.Closing.{Followed-none, Followed-rose, Followed-same, Followed-end}
use Rattle.dl_reach.proofs.matrix.follow_all.Goals as goal
use Rattle.dl_reach.proofs.matrix.follow_all.Goals.{then-follow, else-follow}

pub loop-pair-init : goal.loop-pair-init
loop-pair-init c = Followed-none c.args.width c.args.words.now

pub loop-pair-preserved : goal.loop-pair-preserved
loop-pair-preserved c =
    rw (take_more c.args.pairs.now c.loop-pair.pair-index (0, 0) c.loop-pair-test.true)
    (elim c.if-follow.branch [
      | then-follow w ↦ rw w.changed-is (Followed-rose c.args.width c.args.words.now c.loop-pair.words c.follow.new.words _ _ c.loop-pair.changed c.loop-pair.invariant c.follow.ensures.extends (rw w.if-follow.true at c.follow.ensures.changed))
      | else-follow w ↦
          let same = rw w.if-follow.false at c.follow.ensures.changed in
          rw w.changed-is (Followed-same c.args.width c.args.words.now c.loop-pair.words c.follow.new.words _ _ c.loop-pair.changed c.loop-pair.invariant c.follow.ensures.extends same.0 same.1)
    ])

pub returns-clause-changed : goal.returns-clause-changed
returns-clause-changed c = Followed-end c.args.width c.args.words.now c.loop-pair.words c.args.pairs.now c.loop-pair.changed (rw (take_all c.loop-pair.pair-index c.args.pairs.now c.loop-pair-test.false) at c.loop-pair.invariant)
