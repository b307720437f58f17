use Rattle.dl_terms.specs.NormalForm.{part_rows}
use Rattle.dl_normal.proofs.RowLemmas.{Gains-more}
use Rattle.dl_normal.proofs.form.push_parts.Goals as goal

pub loop-part-preserved : goal.loop-part-preserved
loop-part-preserved c =
    Gains-more c.args.index (part_rows c.args.sub) c.args.parts.now c.loop-part.part-index _ _ _ _ c.loop-part-test.true c.loop-part.invariant
    c.in_ok-push_part.ensures
