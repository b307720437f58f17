use Rattle.std.proofs.Common.{◌≡◌, ◌++◌, drop}
use Rattle.dl_normal.proofs.OperandLemmas.{links}
use Rattle.dl_normal.proofs.operands.push_ring.Given as goal

abbrev pub invariant-loop-next : goal.invariant-loop-next
invariant-loop-next g l =
    l.rows ++ links l.one (drop l.next-index l.rest) l.first ≡ l.initial.rows ++ links l.first l.rest l.first
