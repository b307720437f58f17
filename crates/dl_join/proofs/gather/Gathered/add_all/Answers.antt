use Rattle.std.proofs.Common.{take}
use Rattle.std.proofs.lemmas.Result.{err_from_is_err_and}
use Rattle.dl_join.proofs.GatherLemmas.{Gathers-none, Gathers-more, front_more, over_more}
use Rattle.dl_join.proofs.gather.Gathered.add_all.Goals as goal

pub loop-tuple-init : goal.loop-tuple-init
loop-tuple-init c = Gathers-none c.args.self.now c.requires.valid

pub returns-in_err-add_tuple-clause-many : goal.returns-in_err-add_tuple-clause-many
returns-in_err-add_tuple-clause-many c = λ e.
    let p = err_from_is_err_and c.from_residual.result c.from_residual.ensures.1 in
    over_more c.args.tuples.now c.loop-tuple.tuple-index c.as_slice.result.now c.tuple-item.result c.args.self.now c.loop-tuple.self c.loop-tuple-test.true c.as_slice.ensures
    c.tuple-item.is c.loop-tuple.invariant (c.in_err-add_tuple.ensures.many (cc (p.1, p.2, e)))

pub loop-tuple-preserved : goal.loop-tuple-preserved
loop-tuple-preserved c =
    let more = front_more c.args.tuples.now c.loop-tuple.tuple-index c.as_slice.result.now c.tuple-item.result c.loop-tuple-test.true c.as_slice.ensures c.tuple-item.is in
    rw more (Gathers-more (take c.loop-tuple.tuple-index c.args.tuples.now) c.as_slice.result.now c.args.self.now c.loop-tuple.self c.add_tuple.new.self c.loop-tuple.invariant
    c.in_ok-add_tuple.ensures.ok)
