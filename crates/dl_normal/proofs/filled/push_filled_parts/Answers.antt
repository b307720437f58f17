use Rattle.dl_normal.specs.Filled.{filled}
use Rattle.dl_normal.proofs.FilledLemmas.{pushed-more}
use Rattle.dl_normal.proofs.filled.push_filled_parts.Goals as goal

pub loop-part-preserved : goal.loop-part-preserved
loop-part-preserved c =
    pushed-more filled c.args.pairs.now c.loop-part.pairs c.push_filled_part.new.pairs c.args.parts.now c.loop-part.part-index _ c.loop-part-test.true
    c.loop-part.invariant c.in_ok-push_filled_part.ensures
