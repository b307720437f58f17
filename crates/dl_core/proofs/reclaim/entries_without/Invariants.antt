use Rattle.std.proofs.Common.{◌≡◌, ◌==◌, not, filter, take, map}
use Rattle.std.specs.List.{list_any}
use Rattle.dl_epoch.specs.Covering.{kept}
use Rattle.dl_core.proofs.reclaim.entries_without.Given as goal

abbrev pub invariant-loop-entry : goal.invariant-loop-entry
invariant-loop-entry l =
    map kept l.others ≡ filter (λ k. not (list_any (λ id. id == k.epoch.id) l.ids)) (map kept (take l.entry-index l.entries))
