use Rattle.std.proofs.Common.{◌≡◌, false, take}
use Rattle.dl_migrate.specs.Reclaiming.{has_between}
use Rattle.dl_migrate.proofs.reclaim.one_between.Given as goal

abbrev pub invariant-loop-version : goal.invariant-loop-version
invariant-loop-version l = has_between l.from l.to (take l.version-index l.versions) ≡ false
