use Rattle.dl_stream.proofs.NumberLemmas.{Reads}
use Rattle.dl_stream.proofs.number.digits_value.Given as goal

abbrev pub invariant-loop-byte : goal.invariant-loop-byte
invariant-loop-byte l = Reads l.word l.value l.byte-index
