use Rattle.dl_tests_store.proofs.numbers.Small.+walk.Given as goal

abbrev pub decreases-walk : goal.decreases-walk
decreases-walk l = l.levels
