use Rattle.std.proofs.Common.{◌≡◌, ◌+◌, ◌-◌, ◌≤◌, ◌++◌, map, filter}
use Rattle.dl_row.specs.Rows.{visible}
use Rattle.dl_row.specs.Shards.{ends_of}
use Rattle.dl_row.specs.Searching.{between}
use Rattle.dl_row.proofs.scan.push_visible.Given as goal

abbrev pub invariant-loop-i : goal.invariant-loop-i
invariant-loop-i g l = record {
  found : l.out ≡ l.fn.out ++ map ends_of (filter (visible l.version) (between l.fn.places.0 l.i (g.R.Rows.rows l.rows)));
  few : l.steps ≤ l.fn.steps + (l.i - l.fn.places.0);
}
