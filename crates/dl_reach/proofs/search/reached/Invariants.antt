use Rattle.std.proofs.Common.{◌-◌}
use Rattle.dl_reach.proofs.Searching.{Searched}
use Rattle.dl_reach.proofs.search.reached.Given as goal

abbrev pub invariant-loop-next : goal.invariant-loop-next
invariant-loop-next l = Searched l.nodes l.edges l.from l.seen.items l.found.items l.next

abbrev pub decreases-loop-next : goal.decreases-loop-next
decreases-loop-next l = l.nodes - l.next
