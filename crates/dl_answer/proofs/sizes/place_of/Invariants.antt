use Rattle.std.proofs.Common.{◌-◌, ◌≤◌, length}
use Rattle.dl_answer.proofs.sizes.place_of.Given as goal

abbrev pub invariant-loop-low : goal.invariant-loop-low
invariant-loop-low l = l.high ≤ length l.shard

abbrev pub decreases-loop-low : goal.decreases-loop-low
decreases-loop-low l = l.high - l.low
