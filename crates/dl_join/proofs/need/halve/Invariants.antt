use Rattle.std.proofs.Common.{◌-◌, ◌<◌, ◌≤◌, length}
use Rattle.std.specs.List.{AllWithin}
use Rattle.dl_join.specs.Needs.{in_column}
use Rattle.dl_join.proofs.need.halve.Given as goal

abbrev pub invariant-loop-low : goal.invariant-loop-low
invariant-loop-low l = record {
  order : l.low ≤ l.high;
  range : l.high ≤ length l.pairs;
  below : AllWithin (λ p. in_column l.column p < l.bound) l.pairs 0 l.low;
  others : AllWithin (λ p. l.bound ≤ in_column l.column p) l.pairs l.high (length l.pairs);
}

abbrev pub decreases-loop-low : goal.decreases-loop-low
decreases-loop-low l = l.high - l.low
