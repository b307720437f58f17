use Rattle.std.proofs.Common.{map}
use Rattle.dl_epoch.specs.Covering.{kept}
use Rattle.dl_epoch.proofs.CoveringLemmas.{Looks}
use Rattle.dl_epoch.proofs.epochs.covering_place.Given as goal

abbrev pub invariant-loop-place : goal.invariant-loop-place
invariant-loop-place l = Looks (map kept l.entries) l.version l.place

abbrev pub decreases-loop-place : goal.decreases-loop-place
decreases-loop-place l = l.place
