use Rattle.std.proofs.Common.{◌-◌, ◌<◌, ◌≤◌, length}
use Rattle.std.specs.List.{AllWithin}
use Rattle.dl_join.specs.Needs.{in_column}
use Rattle.dl_join.proofs.need.leap.Given as goal

abbrev pub invariant-loop-step : goal.invariant-loop-step
invariant-loop-step l = record {
  steps : 0 < l.step;
  range : l.low ≤ length l.pairs;
  below : AllWithin (λ p. in_column l.column p < l.bound) l.pairs 0 l.low;
}

abbrev pub decreases-loop-step : goal.decreases-loop-step
decreases-loop-step l = length l.pairs - l.low
