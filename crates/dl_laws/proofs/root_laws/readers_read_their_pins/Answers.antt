use Rattle.dl_core.proofs.ReaderLemmas.{reader_reads}
use Rattle.dl_laws.proofs.root_laws.readers_read_their_pins.Goals as goal

pub returns : goal.returns
returns c = reader_reads
