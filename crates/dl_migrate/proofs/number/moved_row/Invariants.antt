use Rattle.std.proofs.Common.{◌≡◌, map, drop}
use Rattle.dl_row.specs.Rows.{epoch_of}
use Rattle.dl_epoch.specs.Covering.{kept, epoch_in}
use Rattle.dl_migrate.proofs.number.moved_row.Given as goal

abbrev pub invariant-loop-entry : goal.invariant-loop-entry
invariant-loop-entry l = epoch_of (map epoch_in (map kept l.entries)) l.row.epoch ≡ epoch_of (map epoch_in (map kept (drop l.entry-index l.entries))) l.row.epoch
