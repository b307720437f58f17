use Rattle.dl_numbers.proofs.BesideLemmas.{AreFilled}
use Rattle.dl_numbers.proofs.numbering.numbers_at.Given as goal

abbrev pub invariant-loop-i : goal.invariant-loop-i
invariant-loop-i l = AreFilled l.places l.i l.numbers.items
