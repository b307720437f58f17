use Rattle.std.proofs.Common.{length}
use Rattle.dl_stream.proofs.TextLemmas.{Read}
use Rattle.dl_stream.proofs.reading.read_streams.Given as goal

abbrev pub invariant-lines : goal.invariant-lines
invariant-lines l = Read l.fn.bytes l.rest l.fn.names l.names l.n l.place

abbrev pub decreases-lines : goal.decreases-lines
decreases-lines l = length l.rest
