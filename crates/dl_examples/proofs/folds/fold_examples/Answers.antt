use Rattle.dl_examples.proofs.FoldExampleLemmas.{y_and_z_are_connected, p_then_s, y_and_z_fold, not_by_s, no_loop, just_p, y_folds, in_a_row, all_fold, none_outside}
use Rattle.dl_examples.proofs.folds.fold_examples.Goals as goal

pub returns-clause-connected : goal.returns-clause-connected
returns-clause-connected c = y_and_z_are_connected

pub returns-clause-two_deep : goal.returns-clause-two_deep
returns-clause-two_deep c = (p_then_s, y_and_z_fold)

pub returns-clause-not_by_s : goal.returns-clause-not_by_s
returns-clause-not_by_s c = not_by_s

pub returns-clause-no_loop : goal.returns-clause-no_loop
returns-clause-no_loop c = no_loop

pub returns-clause-two_neighbours : goal.returns-clause-two_neighbours
returns-clause-two_neighbours c = λ axioms. (just_p, y_folds axioms)

pub returns-clause-without_neighbours : goal.returns-clause-without_neighbours
returns-clause-without_neighbours c = (in_a_row, all_fold)

pub returns-clause-none_outside : goal.returns-clause-none_outside
returns-clause-none_outside c = none_outside
