use Rattle.std.proofs.Common.{◌≡◌, []}
use Rattle.dl_answer.proofs.KeptLemmas.{none_more, none_all, failed}
use Rattle.dl_answer.proofs.probes.some_is_empty.Goals as goal

pub loop-pairs-preserved : goal.loop-pairs-preserved
loop-pairs-preserved c =
    none_more (λ pairs. pairs ≡ []) c.args.lists.now c.loop-pairs.pairs-index c.pairs-item.result c.loop-pairs-test.true
    c.pairs-item.is c.loop-pairs.invariant (failed c.is_empty.result c.is_empty.ensures c.if-is_empty.false)

pub returns : goal.returns
returns c =
    none_all (λ pairs. pairs ≡ []) c.args.lists.now c.loop-pairs.pairs-index c.loop-pairs-test.false c.loop-pairs.invariant
