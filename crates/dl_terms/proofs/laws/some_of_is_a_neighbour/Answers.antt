use Rattle.dl_terms.proofs.StructureLemmas.{HoldsAt-Joins}
use Rattle.dl_terms.proofs.laws.some_of_is_a_neighbour.Goals as goal

pub returns : goal.returns
returns c = HoldsAt-Joins
