use Rattle.std.proofs.Common.{◌≡◌, take, map}
use Rattle.dl_epoch.specs.Covering.{kept}
use Rattle.dl_core.specs.Maintaining.{recounted}
use Rattle.dl_core.proofs.refilled.recounted.Given as goal

abbrev pub invariant-loop-entry : goal.invariant-loop-entry
invariant-loop-entry l = map kept l.counted ≡ map (recounted l.gone l.id l.come) (map kept (take l.entry-index l.entries))
