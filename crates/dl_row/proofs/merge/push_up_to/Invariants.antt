use Rattle.std.proofs.Common.{◌-◌, length}
use Rattle.dl_row.proofs.MergeLemmas.{Catches}
use Rattle.dl_row.proofs.merge.push_up_to.Given as goal

abbrev pub invariant-loop-merged : goal.invariant-loop-merged
invariant-loop-merged l = Catches l.fn.merged.items l.merged.items l.new l.from l.at l.row

abbrev pub decreases-loop-merged : goal.decreases-loop-merged
decreases-loop-merged l = length l.new - l.at
