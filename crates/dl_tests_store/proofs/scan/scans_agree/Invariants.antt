use Rattle.dl_tests_store.proofs.scan.scans_agree.Given as goal

abbrev pub ghosts-all_give : goal.ghosts-all_give
ghosts-all_give a = record { name = a.blank.name; parts = a.blank.parts }
