use Rattle.dl_stream.proofs.UniqueLemmas.{one_value, one_first, value_no_fault}
use Rattle.dl_stream.proofs.laws.files_have_one_value_or_one_first_fault.Goals as goal

pub returns : goal.returns
returns c = record { one_value = one_value; one_fault = one_first; not_both = value_no_fault }
