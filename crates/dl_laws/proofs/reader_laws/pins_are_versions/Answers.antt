use Rattle.dl_core.proofs.PinnedEpochLemmas.{pin_within}
use Rattle.dl_laws.proofs.reader_laws.pins_are_versions.Goals as goal

pub returns : goal.returns
returns c = pin_within
