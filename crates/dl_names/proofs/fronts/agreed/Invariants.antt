use Rattle.std.proofs.Common.{◌≡◌, ◌≤◌, ◌-◌, length, take}
use Rattle.dl_names.proofs.fronts.agreed.Given as goal

abbrev pub invariant-loop-count : goal.invariant-loop-count
invariant-loop-count l = (take l.count l.one ≡ take l.count l.other) × (l.count ≤ l.most) × (l.most ≤ length l.one) × (l.most ≤ length l.other)

abbrev pub decreases-loop-count : goal.decreases-loop-count
decreases-loop-count l = l.most - l.count
