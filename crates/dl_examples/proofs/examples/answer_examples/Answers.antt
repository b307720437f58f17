use Rattle.dl_examples.proofs.AnswerExampleLemmas.{unnamed_neighbour, no_named_neighbour, not_shared, none_for_two, unnamed_neighbours, no_loop, words_of_any_length, seven_atoms, turned}
use Rattle.dl_examples.proofs.examples.answer_examples.Goals as goal

pub returns-clause-unnamed_neighbour : goal.returns-clause-unnamed_neighbour
returns-clause-unnamed_neighbour c = unnamed_neighbour

pub returns-clause-no_named_neighbour : goal.returns-clause-no_named_neighbour
returns-clause-no_named_neighbour c = no_named_neighbour

pub returns-clause-not_shared : goal.returns-clause-not_shared
returns-clause-not_shared c = not_shared

pub returns-clause-none_for_two : goal.returns-clause-none_for_two
returns-clause-none_for_two c = none_for_two

pub returns-clause-unnamed_neighbours : goal.returns-clause-unnamed_neighbours
returns-clause-unnamed_neighbours c = unnamed_neighbours

pub returns-clause-no_loop : goal.returns-clause-no_loop
returns-clause-no_loop c = no_loop

pub returns-clause-words_of_any_length : goal.returns-clause-words_of_any_length
returns-clause-words_of_any_length c = words_of_any_length

pub returns-clause-seven_atoms : goal.returns-clause-seven_atoms
returns-clause-seven_atoms c = seven_atoms

pub returns-clause-turned : goal.returns-clause-turned
returns-clause-turned c = turned
