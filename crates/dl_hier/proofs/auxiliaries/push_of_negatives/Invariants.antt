use Rattle.std.proofs.Common.{◌≡◌, ◌++◌, take, flat_map}
use Rattle.dl_hier.specs.Rows.{negative_auxiliaries}
use Rattle.dl_hier.proofs.auxiliaries.push_of_negatives.Given as goal

abbrev pub invariant-loop-negative : goal.invariant-loop-negative
invariant-loop-negative l = l.auxiliaries ≡ l.initial.auxiliaries ++ flat_map (λ p. negative_auxiliaries p.1) (take l.negative-index l.rows)
