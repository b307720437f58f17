use Rattle.std.proofs.Common.{◌≡◌, take}
use Rattle.dl_core.proofs.look.classes_of.Given as goal

abbrev pub invariant-loop-i : goal.invariant-loop-i
invariant-loop-i l = l.names ≡ take l.i l.epoch.classes
