use Rattle.dl_core.proofs.PinnedEpochLemmas.{pin_has_entry, entry_reads}
use Rattle.dl_laws.proofs.reader_laws.pins_have_entries.Goals as goal

pub returns : goal.returns
returns c = record { covered = pin_has_entry; reads = entry_reads }
