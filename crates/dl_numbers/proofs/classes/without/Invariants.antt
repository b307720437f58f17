use Rattle.dl_numbers.proofs.LowestLemmas.{AreKept}
use Rattle.dl_numbers.proofs.classes.without.Given as goal

abbrev pub invariant-loop-other : goal.invariant-loop-other
invariant-loop-other l = AreKept l.order l.left l.lowest l.other-index l.kept.items
