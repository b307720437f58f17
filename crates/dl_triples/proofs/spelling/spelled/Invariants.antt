use Rattle.std.proofs.Common.{◌≡◌, ℕ, List, IsTrue, length}
use Rattle.dl_triples.proofs.SpelledLemmas.{Passed}
use Rattle.dl_triples.proofs.spelling.spelled.Given as goal

abbrev pub invariant-loop-next : goal.invariant-loop-next
invariant-loop-next l = (value : List ℕ) × (passed : Passed l.quoting l.bytes l.rest value) × (IsTrue l.is_plain → value ≡ passed.text)

abbrev pub decreases-loop-next : goal.decreases-loop-next
decreases-loop-next l = length l.rest
