use Rattle.dl_edits.proofs.EditLemmas.{edits_decide}
use Rattle.dl_laws.proofs.root_laws.the_last_edit_decides.Goals as goal

pub returns : goal.returns
returns c = edits_decide
