use Rattle.dl_core.proofs.ReaderLemmas.{plain_stands}
use Rattle.dl_core.proofs.root_reads.RootReads.new.Goals as goal

pub returns-clause-stands : goal.returns-clause-stands
returns-clause-stands c = plain_stands c.args.root c.args.stream 0
