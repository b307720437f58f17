use Rattle.std.proofs.Common.{◌≡◌, ◌+◌, ◌++◌, filter, take, length}
use Rattle.dl_row.specs.Rows.{visible}
use Rattle.dl_core.proofs.look.push_first.Given as goal

abbrev pub invariant-loop-i : goal.invariant-loop-i
invariant-loop-i l = record {
  are : l.rows ≡ l.fn.rows ++ filter (visible l.version) (take l.i l.shard);
  left : l.left + length (filter (visible l.version) (take l.i l.shard)) ≡ l.n;
}
