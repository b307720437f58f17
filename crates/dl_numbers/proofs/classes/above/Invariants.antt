use Rattle.dl_numbers.specs.DepthFirst.{AreExactly}
use Rattle.dl_numbers.specs.Places.{places, IsLeaderAbove}
use Rattle.dl_numbers.proofs.classes.above.Given as goal

abbrev pub invariant-loop-other : goal.invariant-loop-other
invariant-loop-other l = AreExactly (places l.other) (λ other. IsLeaderAbove l.order l.leaders other l.place) l.found.items
