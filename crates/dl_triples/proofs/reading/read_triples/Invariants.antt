use Rattle.std.proofs.Common.{length}
use Rattle.dl_triples.specs.Progress.{Read}
use Rattle.dl_triples.proofs.reading.read_triples.Given as goal

abbrev pub invariant-lines : goal.invariant-lines
invariant-lines l = Read l.fn.bytes l.rest l.fn.names l.names l.n l.triples.facts l.triples.skipped

abbrev pub decreases-lines : goal.decreases-lines
decreases-lines l = length l.rest
