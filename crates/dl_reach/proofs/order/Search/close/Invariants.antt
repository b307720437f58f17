use Rattle.std.proofs.Common.{◌≡◌, vec_len}
use Rattle.dl_reach.proofs.order.Search.close.Given as goal

abbrev pub invariant-loop-i : goal.invariant-loop-i
invariant-loop-i l = (l.self.nodes ≡ l.initial.self.nodes) × (vec_len l.self.pending ≡ vec_len l.initial.self.pending)
