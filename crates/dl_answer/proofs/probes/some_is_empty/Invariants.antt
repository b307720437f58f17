use Rattle.std.proofs.Common.{◌≡◌, [], take}
use Rattle.std.specs.List.{Any}
use Rattle.dl_answer.proofs.probes.some_is_empty.Given as goal

abbrev pub invariant-loop-pairs : goal.invariant-loop-pairs
invariant-loop-pairs l = Any (λ pairs. pairs ≡ []) (take l.pairs-index l.lists) → ⊥
