use Rattle.dl_terms.proofs.StructureLemmas.{HoldsAt-Joins}
use Rattle.dl_models.proofs.CanonicalLemmas.{is_model}
use Rattle.dl_models.proofs.laws.canonical_accepts.Goals as goal

pub returns : goal.returns
returns c = record {
  some_of = λ r x element. HoldsAt-Joins c.args.axioms.now c.args.facts.now r x element;
  is_model = λ whole. is_model c.args.axioms.now c.args.facts.now c.args.nothing c.requires whole;
}
