use Rattle.dl_intervals.proofs.Growth.{Collects}
use Rattle.dl_intervals.proofs.intervals.Intervals.of.Given as goal

abbrev pub invariant-loop-number : goal.invariant-loop-number
invariant-loop-number l = Collects l.numbers l.number-index l.items.items
