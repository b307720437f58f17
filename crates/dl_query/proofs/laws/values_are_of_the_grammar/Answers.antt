use Rattle.dl_query.proofs.ResultLemmas.{text-value, well-formed-right}
use Rattle.dl_query.proofs.laws.values_are_of_the_grammar.Goals as goal

pub returns : goal.returns
returns c = record {
  value = text-value;
  of_grammar = λ bytes names q after v. (v.m, v.text, v.is, v.named, λ f. well-formed-right q f v.well_formed);
}
