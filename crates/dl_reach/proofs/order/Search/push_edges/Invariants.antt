use Rattle.std.proofs.Common.{◌≡◌}
use Rattle.dl_reach.proofs.order.Search.push_edges.Given as goal

abbrev pub invariant-loop-i : goal.invariant-loop-i
invariant-loop-i l = (l.self.nodes ≡ l.initial.self.nodes) × (l.self.pending ≡ l.initial.self.pending)
