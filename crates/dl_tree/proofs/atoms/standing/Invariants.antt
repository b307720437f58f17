use Rattle.std.proofs.Common.{ℕ, ◌≡◌, ◌&&◌, take, bit_and, w8}
use Rattle.std.specs.Int.{bit_not}
use Rattle.std.specs.List.{list_all}
use Rattle.dl_reach.specs.Rows.{row_has}
use Rattle.dl_tree.specs.Tests.{test_stands, tests_at, column}
use Rattle.dl_tree.proofs.atoms.standing.Given as goal

abbrev pub invariant-loop-atom : goal.invariant-loop-atom
invariant-loop-atom l = (i : ℕ) → row_has l.row.items i
    ≡ (column l.below i (bit_and l.s (bit_not w8 l.m)) && list_all (test_stands l.s l.m) (tests_at (take l.atom-index l.atoms) i))
