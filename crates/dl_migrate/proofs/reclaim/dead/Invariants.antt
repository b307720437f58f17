use Rattle.std.proofs.Common.{map}
use Rattle.dl_epoch.specs.Covering.{kept}
use Rattle.dl_migrate.proofs.CoverLemmas.{Reclaims}
use Rattle.dl_migrate.proofs.reclaim.dead.Given as goal

abbrev pub invariant-loop-i : goal.invariant-loop-i
invariant-loop-i l = Reclaims (map kept l.entries) l.pins l.i l.ids
