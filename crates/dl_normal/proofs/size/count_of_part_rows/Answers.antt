use Rattle.std.proofs.Common.{◌-◌, ◌^◌, ◌∙◌, ap, min, length, flat_map}
use Rattle.std.proofs.lemmas.List.{take_all}
use Rattle.dl_terms.specs.NormalForm.{part_rows}
use Rattle.dl_normal.proofs.WeightLemmas.{held-rows}
use Rattle.dl_normal.proofs.size.count_of_part_rows.Goals as goal

pub loop-part-preserved : goal.loop-part-preserved
loop-part-preserved c = λ b.
    c.saturating_add-total.ensures
    ∙ held-rows (2 ^ 64 - 1) (part_rows b) c.args.parts.now c.loop-part.part-index _ _ _ c.loop-part-test.true (c.loop-part.invariant b) (c.count_of_rows_of.ensures b)

pub returns : goal.returns
returns c = λ b.
    c.loop-part.invariant b
    ∙ ap (λ l. min (length (flat_map (part_rows b) l)) (2 ^ 64 - 1)) (take_all c.loop-part.part-index c.args.parts.now c.loop-part-test.false)
