use Rattle.dl_triples.proofs.ValueLemmas.{one_value, one_first, value_no_fault, value_or_fault}
use Rattle.dl_triples.proofs.laws.texts_have_one_value_or_one_first_fault.Goals as goal

pub returns : goal.returns
returns c = record { one_value = one_value; one_fault = one_first; not_both = value_no_fault; not_neither = value_or_fault }
