use Rattle.dl_models.proofs.AcceptLemmas.{absent-more, absent-all}
use Rattle.dl_models.proofs.facts.look_up.Goals as goal

pub loop-known-preserved : goal.loop-known-preserved
loop-known-preserved c =
    absent-more c.args.pairs.now c.loop-known.known-index _ c.args.key c.loop-known-test.true c.loop-known.invariant c.if-known-key.false

pub returns : goal.returns
returns c = absent-all c.args.pairs.now c.loop-known.known-index c.args.key c.loop-known-test.false c.loop-known.invariant
