use Rattle.std.proofs.Common.{ℕ, List, length}
use Rattle.dl_triples.specs.Parts.{SubtagsThen}
use Rattle.dl_triples.proofs.line.subtags_then.Given as goal

abbrev pub invariant-loop-next : goal.invariant-loop-next
invariant-loop-next l = record {
  to_here : (rest : List ℕ) → SubtagsThen l.bytes rest → SubtagsThen l.rest rest;
  from_here : (rest : List ℕ) → SubtagsThen l.rest rest → SubtagsThen l.bytes rest;
}

abbrev pub decreases-loop-next : goal.decreases-loop-next
decreases-loop-next l = length l.rest
