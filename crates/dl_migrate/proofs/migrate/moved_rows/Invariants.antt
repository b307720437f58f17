use Rattle.std.proofs.Common.{◌≡◌, ℕ, map, take}
use Rattle.dl_epoch.specs.Covering.{kept, epoch_in}
use Rattle.dl_epoch.specs.Frozen.{from_version}
use Rattle.dl_migrate.specs.Moving.{renumbered}
use Rattle.dl_migrate.proofs.migrate.moved_rows.Given as goal

abbrev pub invariant-loop-row : goal.invariant-loop-row
invariant-loop-row l = (first : ℕ) → l.moved ≡ map (renumbered (map epoch_in (map kept l.entries)) (from_version first l.to)) (take l.row-index l.rows)
