use Rattle.dl_normal.proofs.FilledLemmas.{of_axioms}
use Rattle.dl_normal.proofs.filled.auxiliaries_are_of_parts.Goals as goal

pub returns : goal.returns
returns c = λ axioms all row h. of_axioms axioms all row h
