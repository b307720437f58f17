use Rattle.std.proofs.Common.{◌≡◌, ◌-◌, ◌^◌, min, take}
use Rattle.dl_normal.specs.Weight.{total_weight}
use Rattle.dl_normal.proofs.size.weight.Given as goal

abbrev pub invariant-loop-axiom : goal.invariant-loop-axiom
invariant-loop-axiom l = l.total ≡ min (total_weight (take l.axiom-index l.axioms)) (2 ^ 64 - 1)
