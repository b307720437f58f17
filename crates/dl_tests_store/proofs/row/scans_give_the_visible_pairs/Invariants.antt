use Rattle.dl_tests_store.proofs.row.scans_give_the_visible_pairs.Given as goal

abbrev pub ghosts-all_give : goal.ghosts-all_give
ghosts-all_give b a = record { name = a.blank.name; parts = a.blank.parts }
