use Rattle.std.proofs.Common.{◌≡◌, map, take}
use Rattle.dl_epoch.specs.Covering.{kept}
use Rattle.dl_core.proofs.copies.copied_entries.Given as goal

abbrev pub invariant-loop-entry : goal.invariant-loop-entry
invariant-loop-entry l = map kept l.copies ≡ map kept (take l.entry-index l.entries)
