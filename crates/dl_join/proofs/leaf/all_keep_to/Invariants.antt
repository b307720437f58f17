use Rattle.std.proofs.Common.{take}
use Rattle.std.specs.List.{All}
use Rattle.dl_join.specs.Leaves.{KeepsTo}
use Rattle.dl_join.proofs.leaf.all_keep_to.Given as goal

abbrev pub invariant-loop-need : goal.invariant-loop-need
invariant-loop-need l = All (KeepsTo l.var l.to) (take l.need-index l.needs)
