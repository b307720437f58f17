use Rattle.dl_edits.proofs.SetOfLemmas.{ascending_from}
use Rattle.dl_edits.proofs.sets.ascends.Goals as goal

pub returns : goal.returns
returns g c = ascending_from g.met.T.Ord.total c.args.items.now c.loop-i.i c.loop-i-test.false c.loop-i.invariant
