use Rattle.std.proofs.Common.{◌≡◌, ◌++◌, map, take}
use Rattle.dl_normal.proofs.operands.push_disjoint.Given as goal

abbrev pub invariant-loop-other : goal.invariant-loop-other
invariant-loop-other g l =
    l.negatives ≡ l.initial.negatives ++ map (λ other. (l.index, g.T.Operand.disjoint l.item other)) (take l.other-index l.others)
