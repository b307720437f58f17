use Rattle.std.proofs.Common.{◌≡◌, drop, map}
use Rattle.dl_core.specs.Next.{least}
use Rattle.dl_core.proofs.maintain.horizon.Given as goal

abbrev pub invariant-loop-pin : goal.invariant-loop-pin
invariant-loop-pin l = least l.version (map (λ p. p.version) l.pins) ≡ least l.least (map (λ p. p.version) (drop l.pin-index l.pins))
