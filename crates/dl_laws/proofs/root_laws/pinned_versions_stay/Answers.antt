use Rattle.dl_core.proofs.ReadLemmas.{pinned_reads}
use Rattle.dl_laws.proofs.root_laws.pinned_versions_stay.Goals as goal

pub returns : goal.returns
returns c = pinned_reads
