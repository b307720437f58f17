use Rattle.std.proofs.Common.{length, refl, subst}
use Rattle.std.proofs.lemmas.Result.{err_from_is_err_and}
use Rattle.dl_run.specs.Answered.{shards, AnswersAsked}
use Rattle.dl_run.specs.Numbered.{base_of}
use Rattle.dl_run.proofs.NamedLemmas.{answer_named}
use Rattle.dl_run.proofs.StoreLemmas.{reader_answers, store_stops, no_answer}
use Rattle.dl_run.proofs.answer.answers_for.Goals as goal

pub returns-in_err-reads : goal.returns-in_err-reads
returns-in_err-reads c =
    let p = err_from_is_err_and c.from_residual.result c.from_residual.ensures.1 in
    store_stops (base_of shards c.args.base) c.args.query.now c.args.limit p.0 c.from_residual.result p.1 (rw p.2 c.in_err-reads.ensures)

pub invariant_of-result : goal.invariant_of-result
invariant_of-result c =
    let base = c.args.base in
    let asked = reader_answers base c.args.query.now c.in_ok-reads.reads c.in_ok-reads.ensures c.args.limit c.ask.result c.ask.ensures.reply in
    record {
      answer_named = answer_named base.axioms base.facts (length base.names) base.axioms_named base.facts_named base.nothing c.args.limit c.args.query.now
          c.requires.well_formed c.in-Ok.answer (subst (AnswersAsked base c.args.query.now c.args.limit) c.in-Ok.is asked).0;
    }

pub stop_of-requires : goal.stop_of-requires
stop_of-requires c =
    let base = c.args.base in
    let asked = reader_answers base c.args.query.now c.in_ok-reads.reads c.in_ok-reads.ensures c.args.limit c.ask.result c.ask.ensures.reply in
    (base, c.args.query.now, subst (AnswersAsked base c.args.query.now c.args.limit) c.in-Err.is asked)

pub returns-in-Ok : goal.returns-in-Ok
returns-in-Ok c =
    let base = c.args.base in
    let asked = reader_answers base c.args.query.now c.in_ok-reads.reads c.in_ok-reads.ensures c.args.limit c.ask.result c.ask.ensures.reply in (
      c.in_ok-reads.ensures.within,
      (subst (AnswersAsked base c.args.query.now c.args.limit) c.in-Ok.is asked).0,
      refl,
      c.len.ensures,
      refl,
    )

pub returns-in-Err : goal.returns-in-Err
returns-in-Err c =
    let base = c.args.base in
    let asked = reader_answers base c.args.query.now c.in_ok-reads.reads c.in_ok-reads.ensures c.args.limit c.ask.result c.ask.ensures.reply in
    no_answer (base_of shards base) c.args.query.now c.args.limit c.stop_of.result c.in_ok-reads.ensures.within
    (c.stop_of.ensures base c.args.query.now (subst (AnswersAsked base c.args.query.now c.args.limit) c.in-Err.is asked))
