use Rattle.std.proofs.Common.{◌≡◌, ◌+◌, ◌≤◌, drop}
use Rattle.dl_row.specs.Lists.{count}
use Rattle.dl_migrate.specs.Sweeping.{is_over}
use Rattle.dl_migrate.proofs.sweep.over.Given as goal

abbrev pub invariant-loop-i : goal.invariant-loop-i
invariant-loop-i l = record {
  counted : l.over + count (is_over l.horizon) (drop l.i l.shard) ≡ count (is_over l.horizon) l.shard;
  few : l.over ≤ l.i;
}
