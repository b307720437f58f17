use Rattle.dl_models.specs.Meaning.{IsInPart}
use Rattle.dl_models.specs.Structures.{finite}
use Rattle.dl_models.proofs.LoopLemmas.{fails, All-more, list-true, list-false}
use Rattle.dl_models.proofs.elements.is_in_parts.Goals as goal

pub returns-then-not-is_in_part : goal.returns-then-not-is_in_part
returns-then-not-is_in_part c =
    list-false (IsInPart (finite c.args.model.now) c.args.x) c.args.parts.now c.loop-part.part-index _ c.loop-part-test.true
    (fails c.is_in_part.result c.is_in_part.ensures c.if-not-is_in_part.true)

pub loop-part-preserved : goal.loop-part-preserved
loop-part-preserved c =
    All-more (IsInPart (finite c.args.model.now) c.args.x) c.args.parts.now c.loop-part.part-index _ c.loop-part-test.true
    c.loop-part.invariant (c.is_in_part.ensures.0 c.if-not-is_in_part.false)

pub returns : goal.returns
returns c =
    list-true (IsInPart (finite c.args.model.now) c.args.x) c.args.parts.now c.loop-part.part-index c.loop-part-test.false c.loop-part.invariant
