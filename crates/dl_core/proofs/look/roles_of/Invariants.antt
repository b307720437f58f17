use Rattle.std.proofs.Common.{◌≡◌, take}
use Rattle.dl_core.proofs.look.roles_of.Given as goal

abbrev pub invariant-loop-i : goal.invariant-loop-i
invariant-loop-i l = l.names ≡ take l.i l.epoch.roles
