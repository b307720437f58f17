use Rattle.std.proofs.Common.{◌≡◌, ◌==◌, not, filter, take}
use Rattle.dl_core.proofs.pins.pins_without.Given as goal

abbrev pub invariant-loop-pin : goal.invariant-loop-pin
invariant-loop-pin l = l.others ≡ filter (λ p. not (p.stream == l.stream)) (take l.pin-index l.pins)
