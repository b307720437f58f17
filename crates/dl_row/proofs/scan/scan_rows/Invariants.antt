use Rattle.std.proofs.Common.{◌≡◌, ℕ, ◌+◌, ◌++◌, ◌<◌, ◌≤◌, ◌^◌, length, take}
use Rattle.dl_row.specs.Shards.{scanned, most_steps}
use Rattle.dl_row.proofs.scan.scan_rows.Given as goal

abbrev pub invariant-loop-i : goal.invariant-loop-i
invariant-loop-i g l = record {
  found : l.out ≡ l.fn.out ++ scanned l.epoch l.kind (take l.i l.ranges) l.version (g.R.Rows.rows l.rows);
  bound : (digits : ℕ) → length (g.R.Rows.rows l.rows) < 2 ^ digits
      → l.steps ≤ l.fn.steps + most_steps l.epoch l.kind (take l.i l.ranges) digits (g.R.Rows.rows l.rows);
}
