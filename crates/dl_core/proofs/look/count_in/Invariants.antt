use Rattle.std.proofs.Common.{◌≡◌, ◌≤◌, take}
use Rattle.dl_row.specs.Lists.{count}
use Rattle.dl_row.specs.Rows.{visible}
use Rattle.dl_core.proofs.look.count_in.Given as goal

abbrev pub invariant-loop-i : goal.invariant-loop-i
invariant-loop-i l = record {
  are : l.visible ≡ count (visible l.version) (take l.i l.shard);
  few : l.visible ≤ l.i;
}
