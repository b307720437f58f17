use Rattle.dl_laws.proofs.OpenLemmas.{open_row, open_there}
use Rattle.dl_laws.proofs.root_laws.facts_have_open_rows.Goals as goal

pub returns-clause-row : goal.returns-clause-row
returns-clause-row c = open_row

pub returns-clause-there : goal.returns-clause-there
returns-clause-there c = open_there
