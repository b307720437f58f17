use Rattle.std.proofs.Common.{◌≡◌, take, map}
use Rattle.dl_core.proofs.reclaim.versions_of.Given as goal

abbrev pub invariant-loop-pin : goal.invariant-loop-pin
invariant-loop-pin l = l.versions ≡ map (λ p. p.version) (take l.pin-index l.pins)
