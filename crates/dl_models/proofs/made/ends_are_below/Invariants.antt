use Rattle.std.proofs.Common.{◌<◌, take}
use Rattle.std.specs.List.{All}
use Rattle.dl_models.proofs.made.ends_are_below.Given as goal

abbrev pub invariant-loop-x : goal.invariant-loop-x
invariant-loop-x l = All (λ p. (p.1 < l.bound) × (p.2 < l.bound)) (take l.x-index l.links)
