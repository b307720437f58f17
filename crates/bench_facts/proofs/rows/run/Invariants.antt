use Rattle.bench_facts.proofs.rows.run.Given as goal

abbrev pub ghosts-scanned : goal.ghosts-scanned
ghosts-scanned b a = record { name = a.blank.name; parts = a.blank.parts }
