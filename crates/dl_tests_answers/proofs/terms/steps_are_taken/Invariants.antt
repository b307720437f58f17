use Rattle.dl_tests_answers.proofs.terms.steps_are_taken.Given as goal

abbrev pub ghosts-take_three : goal.ghosts-take_three
ghosts-take_three a = record { name = a.blank.name; parts = a.blank.parts }
