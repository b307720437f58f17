use Rattle.std.proofs.Common.{sym, ◌∙◌, get_or}
use Rattle.std.proofs.lemmas.Result.{err_from_is_err_and}
use Rattle.dl_join.proofs.DirectLemmas.{row_width, rows_more, rows_over}
use Rattle.dl_join.proofs.GatherLemmas.{Gathers-none}
use Rattle.dl_join.proofs.gather.Gathered.add_rows.Goals as goal

pub loop-pair-init : goal.loop-pair-init
loop-pair-init c = Gathers-none c.args.self.now c.requires.valid

pub add_tuple-requires : goal.add_tuple-requires
add_tuple-requires c = record {
  valid = c.loop-pair.invariant.valid;
  width = rw c.name_in.ensures
      (row_width c.args.column c.args.width (get_or c.args.pairs.now c.loop-pair.pair-index (0, 0)) c.requires.range ∙ (c.requires.width ∙ sym c.loop-pair.invariant.width));
}

pub returns-in_err-add_tuple-clause-many : goal.returns-in_err-add_tuple-clause-many
returns-in_err-add_tuple-clause-many c = λ e.
    let p = err_from_is_err_and c.from_residual.result c.from_residual.ensures.1 in
    rows_over c.args.column c.args.width c.loop-pair.pair-index c.args.pairs.now (0, 0) c.args.self.now c.loop-pair.self c.loop-pair-test.true c.loop-pair.invariant
    (rw c.name_in.ensures at (c.in_err-add_tuple.ensures.many (cc (p.1, p.2, e))))

pub loop-pair-preserved : goal.loop-pair-preserved
loop-pair-preserved c =
    rows_more c.args.column c.args.width c.loop-pair.pair-index c.args.pairs.now (0, 0) c.args.self.now c.loop-pair.self c.add_tuple.new.self c.loop-pair-test.true c.loop-pair.invariant
    (rw c.name_in.ensures at c.in_ok-add_tuple.ensures.ok)
