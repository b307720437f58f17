use Rattle.dl_examples.proofs.QueryExampleLemmas.{eight_existential, nine_existential, no_safe_head, no_atom, sixteen_atoms, seventeen_atoms, sixteen_places, seventeen_places}
use Rattle.dl_examples.proofs.examples.query_examples.Goals as goal

pub returns-clause-eight_existential : goal.returns-clause-eight_existential
returns-clause-eight_existential c = eight_existential

pub returns-clause-nine_existential : goal.returns-clause-nine_existential
returns-clause-nine_existential c = nine_existential

pub returns-clause-unsafe_head : goal.returns-clause-unsafe_head
returns-clause-unsafe_head c = no_safe_head

pub returns-clause-no_atom : goal.returns-clause-no_atom
returns-clause-no_atom c = no_atom

pub returns-clause-sixteen_atoms : goal.returns-clause-sixteen_atoms
returns-clause-sixteen_atoms c = sixteen_atoms

pub returns-clause-seventeen_atoms : goal.returns-clause-seventeen_atoms
returns-clause-seventeen_atoms c = seventeen_atoms

pub returns-clause-sixteen_places : goal.returns-clause-sixteen_places
returns-clause-sixteen_places c = sixteen_places

pub returns-clause-seventeen_places : goal.returns-clause-seventeen_places
returns-clause-seventeen_places c = seventeen_places
