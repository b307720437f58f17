use Rattle.dl_core.proofs.PinnedEpochLemmas.{entries_light, entries_few}
use Rattle.dl_laws.proofs.reader_laws.entries_are_within_limits.Goals as goal

pub returns : goal.returns
returns c = record { weight = entries_light; few = entries_few }
