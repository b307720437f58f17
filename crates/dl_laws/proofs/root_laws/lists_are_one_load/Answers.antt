use Rattle.dl_core.proofs.LoadLemmas.{load_exists, one_load}
use Rattle.dl_laws.proofs.root_laws.lists_are_one_load.Goals as goal

pub returns : goal.returns
returns c = record { exists = load_exists; one = one_load }
