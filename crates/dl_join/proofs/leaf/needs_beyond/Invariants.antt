use Rattle.std.proofs.Common.{◌≡◌, filter, not, take}
use Rattle.dl_join.specs.declared.need.Need.{Need}
use Rattle.dl_join.specs.Leaves.{is_near}
use Rattle.dl_join.proofs.leaf.needs_beyond.Given as goal

abbrev pub invariant-loop-need : goal.invariant-loop-need
invariant-loop-need l = l.beyond.items ≡ filter (λ (n : Need). not (is_near l.wide l.leaf l.to n)) (take l.need-index l.needs)
