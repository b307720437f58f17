use Rattle.std.proofs.Common.{◌≡◌, drop}
use Rattle.dl_core.specs.Root.{pin_in}
use Rattle.dl_core.proofs.pins.pin_in.Given as goal

abbrev pub invariant-loop-pin : goal.invariant-loop-pin
invariant-loop-pin l = pin_in l.pins l.stream ≡ pin_in (drop l.pin-index l.pins) l.stream
