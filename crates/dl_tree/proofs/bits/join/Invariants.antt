use Rattle.std.proofs.Common.{bit_or}
use Rattle.dl_tree.proofs.BitLemmas.{Worked}
use Rattle.dl_tree.proofs.bits.join.Given as goal

abbrev pub invariant-loop-i : goal.invariant-loop-i
invariant-loop-i l = Worked bit_or l.i l.initial.row.items l.other l.row.items
