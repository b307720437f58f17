use Rattle.std.proofs.lemmas.Result.{err_from_is_err_and}
use Rattle.dl_terms.specs.Occurring.{axiom_names, fact_names}
use Rattle.dl_run.proofs.InputLemmas.{placed_later, numbers_later, data_grows}
use Rattle.dl_run.proofs.WrongLemmas.{ontology_stops, data_stops}
use Rattle.dl_run.proofs.input.read_base.Goals as goal

pub returns-in_err-document-clause-stop : goal.returns-in_err-document-clause-stop
returns-in_err-document-clause-stop c =
    let p = err_from_is_err_and c.from_residual.result c.from_residual.ensures.1 in
    rw p.1 (ontology_stops c.args.ontology.now c.args.facts.now _ p.0 p.2 (rw c.requires at c.in_err-document.ensures.fault))

pub returns-in_err-triples-clause-stop : goal.returns-in_err-triples-clause-stop
returns-in_err-triples-clause-stop c =
    let p = err_from_is_err_and c.from_residual-in_err-triples.result c.from_residual-in_err-triples.ensures.1 in
    rw p.1 (data_stops c.args.ontology.now c.args.facts.now _ _ (rw c.requires at c.in_ok-document.ensures.value) _ p.0 p.2 c.in_err-triples.ensures.fault)

pub returns-clause-read : goal.returns-clause-read
returns-clause-read c = record {
  first = _;
  is_ontology = rw c.requires at c.in_ok-document.ensures.value;
  is_data = c.in_ok-triples.ensures.value;
}

pub returns-clause-placed : goal.returns-clause-placed
returns-clause-placed c =
    let grows = data_grows c.in_ok-triples.ensures.value in
    record {
      no_auxiliaries = c.in_ok-document.ensures.no_auxiliaries;
      axioms = placed_later axiom_names _ _ _ grows c.in_ok-document.ensures.axiom_places;
      facts = placed_later fact_names _ _ _ grows c.in_ok-document.ensures.fact_places;
      classes = numbers_later _ _ _ grows c.in_ok-document.ensures.class_places;
      roles = numbers_later _ _ _ grows c.in_ok-document.ensures.role_places;
      triples = c.in_ok-triples.ensures.places;
    }
