use Rattle.std.proofs.Common.{◌≡◌, ◌++◌, map, drop}
use Rattle.dl_terms.specs.NormalForm.{pairs}
use Rattle.dl_normal.proofs.operands.push_pairs.Given as goal

abbrev pub invariant-loop-i : goal.invariant-loop-i
invariant-loop-i g l =
    l.negatives ++ map (λ p. (l.index, g.T.Operand.disjoint p.0 p.1)) (pairs (drop l.i l.items))
    ≡ l.initial.negatives ++ map (λ p. (l.index, g.T.Operand.disjoint p.0 p.1)) (pairs l.items)
