use Rattle.std.proofs.Common.{take}
use Rattle.std.specs.List.{Any}
use Rattle.dl_join.specs.Disjuncts.{HasVariable}
use Rattle.dl_join.proofs.safe.some_has.Given as goal

abbrev pub invariant-loop-probe : goal.invariant-loop-probe
invariant-loop-probe l = Any (HasVariable l.v) (take l.probe-index l.probes) → ⊥
