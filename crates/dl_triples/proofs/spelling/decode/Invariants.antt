use Rattle.std.proofs.Common.{length, string_bytes}
use Rattle.dl_triples.specs.declared.spelling.Quoting.TheVariants.{Iri}
use Rattle.dl_triples.proofs.SpelledLemmas.{Passed}
use Rattle.dl_triples.proofs.spelling.decode.Given as goal

abbrev pub invariant-loop-character : goal.invariant-loop-character
invariant-loop-character l = Passed Iri l.bytes l.rest (string_bytes l.buffer)

abbrev pub decreases-loop-character : goal.decreases-loop-character
decreases-loop-character l = length l.rest
