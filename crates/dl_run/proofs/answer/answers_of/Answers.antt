use Rattle.std.proofs.Common.{refl, lit<}
use Rattle.std.proofs.lemmas.Result.{err_from_is_err_and}
use Rattle.dl_run.specs.Answered.{shards}
use Rattle.dl_run.specs.Numbered.{base_of}
use Rattle.dl_run.specs.declared.stop.InputFile.TheVariants.{Ontology, Data, Query}
use Rattle.dl_run.proofs.AnswerLemmas.{says_file_stop, says_stop, says_no_memory, says_replies, long_ontology, long_data, long_query, risen_later}
use Rattle.dl_run.proofs.answer.answers_of.Goals as goal

pub returns-in_err-ontology-clause-says : goal.returns-in_err-ontology-clause-says
returns-in_err-ontology-clause-says g c =
    let w = c.args.words.now in
    let told = g.L.Library.told c.args.files.now in
    let p = err_from_is_err_and c.from_residual.result c.from_residual.ensures.1 in
    says_file_stop w.ontology.now w.facts.now w.query.now w.limit told _ Ontology w.ontology.now _ p.0 c.from_residual.result p.1
    (rw p.2 c.in_err-ontology.ensures.stop)
    (λ risen. (w.ontology.now, (0, lit< tt, refl), risen))
    (long_ontology told w.ontology.now w.facts.now w.query.now)

pub returns-in_err-facts-clause-says : goal.returns-in_err-facts-clause-says
returns-in_err-facts-clause-says g c =
    let w = c.args.words.now in
    let told = g.L.Library.told c.args.files.now in
    let p = err_from_is_err_and c.from_residual-in_err-facts.result c.from_residual-in_err-facts.ensures.1 in
    let one = c.in_ok-ontology.ensures in
    let stopping = rw one.unchanged at c.in_err-facts.ensures.stop in
    says_file_stop w.ontology.now w.facts.now w.query.now w.limit told _ Data w.facts.now _ p.0 c.from_residual-in_err-facts.result p.1
    (rw p.2 stopping)
    (λ risen. (w.facts.now, (1, lit< tt, refl), risen_later _ _ _ (one.count w.facts.now) risen))
    (long_data told w.ontology.now w.facts.now w.query.now _ one.whole one.fits)

pub returns-in_err-query-clause-says : goal.returns-in_err-query-clause-says
returns-in_err-query-clause-says g c =
    let w = c.args.words.now in
    let told = g.L.Library.told c.args.files.now in
    let p = err_from_is_err_and c.from_residual-in_err-query.result c.from_residual-in_err-query.ensures.1 in
    let one = c.in_ok-ontology.ensures in
    let two = c.in_ok-facts.ensures in
    let stopping = rw (two.unchanged, one.unchanged) at c.in_err-query.ensures.stop in
    says_file_stop w.ontology.now w.facts.now w.query.now w.limit told _ Query w.query.now _ p.0 c.from_residual-in_err-query.result p.1
    (rw p.2 stopping)
    (λ risen. (w.query.now, (2, lit< tt, refl), risen_later _ _ _ (one.count w.query.now) (risen_later _ _ _ (two.count w.query.now) risen)))
    (long_query told w.ontology.now w.facts.now w.query.now _ one.whole one.fits _ (rw one.unchanged at two.whole) two.fits)

pub asked_of-requires : goal.asked_of-requires
asked_of-requires g c = record {
  ontology_fits = c.in_ok-ontology.ensures.fits;
  data_fits = c.in_ok-facts.ensures.fits;
  last_fits = c.in_ok-query.ensures.fits;
}

pub returns-in_err-base-clause-says : goal.returns-in_err-base-clause-says
returns-in_err-base-clause-says g c =
    let w = c.args.words.now in
    let told = g.L.Library.told c.args.files.now in
    let p = err_from_is_err_and c.from_residual-in_err-base.result c.from_residual-in_err-base.ensures.1 in
    let one = c.in_ok-ontology.ensures in
    let two = c.in_ok-facts.ensures in
    says_stop w.ontology.now w.facts.now w.query.now w.limit told _ c.in_ok-ontology.ontology.items c.in_ok-facts.facts.items c.in_ok-query.query.items
    one.whole
    (rw one.unchanged at two.whole)
    (rw (two.unchanged, one.unchanged) at c.in_ok-query.ensures.whole)
    p.0 c.from_residual-in_err-base.result p.1 (rw p.2 c.in_err-base.ensures)

pub returns-in_err-reserve-clause-says : goal.returns-in_err-reserve-clause-says
returns-in_err-reserve-clause-says g c =
    let w = c.args.words.now in
    let p = err_from_is_err_and c.from_residual-in_err-reserve.result c.from_residual-in_err-reserve.ensures.1 in
    says_no_memory w.ontology.now w.facts.now w.query.now w.limit (g.L.Library.told c.args.files.now) _ p.0 c.from_residual-in_err-reserve.result p.1 p.2

pub answers_for-requires-clause-made : goal.answers_for-requires-clause-made
answers_for-requires-clause-made g c = c.in_ok-base.ensures.1

pub answers_for-requires-clause-well_formed : goal.answers_for-requires-clause-well_formed
answers_for-requires-clause-well_formed g c = c.in_ok-base.ensures.2

pub returns-clause-says : goal.returns-clause-says
returns-clause-says g c =
    let w = c.args.words.now in
    let told = g.L.Library.told c.args.files.now in
    let one = c.in_ok-ontology.ensures in
    let two = c.in_ok-facts.ensures in
    says_replies w.ontology.now w.facts.now w.query.now w.limit told _ c.in_ok-ontology.ontology.items c.in_ok-facts.facts.items c.in_ok-query.query.items
    one.whole
    (rw one.unchanged at two.whole)
    (rw (two.unchanged, one.unchanged) at c.in_ok-query.ensures.whole)
    (base_of shards c.in_ok-base.base) c.in_ok-base.asked c.in_ok-base.ensures.0 c.answers_for.result c.answers_for.ensures
