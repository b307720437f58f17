use Rattle.std.proofs.Common.{[], refl, arith}
use Rattle.dl_text.specs.AnswerText.{tuple_line}
use Rattle.dl_io.proofs.PrintLemmas.{prints_none, prints_next, prints_next_failed, prints_whole}
use Rattle.dl_text.proofs.answers.put_tuples.Goals as goal

pub loop-row-init : goal.loop-row-init
loop-row-init g c = prints_none _

pub put_tuple-requires-clause-named : goal.put_tuple-requires-clause-named
put_tuple-requires-clause-named g c =
    c.requires c.loop-row.row [] (omega (arith, c.loop-row-test.true, c.len-row-end.ensures))

pub returns-in_err-put_tuple : goal.returns-in_err-put_tuple
returns-in_err-put_tuple g c =
    prints_next_failed (tuple_line c.args.names.now) c.args.tuples.now.tuples c.loop-row.row [] (omega (arith, c.loop-row-test.true, c.len-row-end.ensures))
    c.from_residual.ensures.0 refl c.loop-row.invariant c.in_err-put_tuple.ensures

pub loop-row-preserved : goal.loop-row-preserved
loop-row-preserved g c =
    prints_next (tuple_line c.args.names.now) c.args.tuples.now.tuples c.loop-row.row [] (omega (arith, c.loop-row-test.true, c.len-row-end.ensures))
    refl c.loop-row.invariant c.in_ok-put_tuple.ensures

pub returns : goal.returns
returns g c =
    prints_whole (tuple_line c.args.names.now) c.args.tuples.now.tuples c.loop-row.row (omega (arith, c.loop-row-test.false, c.len-row-end.ensures)) c.loop-row.invariant
