use Rattle.std.proofs.Common.{ℕ, ◌-◌, ◌<◌, ◌≤◌, ◌^◌, length}
use Rattle.dl_row.specs.Searching.{Bounds}
use Rattle.dl_row.proofs.StepLemmas.{Halves}
use Rattle.dl_row.proofs.search.rows_below.Given as goal

abbrev pub invariant-loop-low : goal.invariant-loop-low
invariant-loop-low g l = record {
  bounds : Bounds l.bound (g.R.Rows.rows l.rows) l.low l.high;
  behind : l.from ≤ l.low;
  few : (digits : ℕ) → length (g.R.Rows.rows l.rows) < 2 ^ digits → Halves l.fn.steps l.steps (l.high - l.low) digits;
}

abbrev pub decreases-loop-low : goal.decreases-loop-low
decreases-loop-low g l = l.high - l.low
