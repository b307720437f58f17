use Rattle.std.proofs.Common.{◌≡◌, ◌++◌, ◌-◌, map}
use Rattle.std.specs.List.{range_with_len}
use Rattle.dl_stream.specs.Generator.{class_filled}
use Rattle.dl_stream.proofs.generated_axioms.push_filled.Given as goal

abbrev pub invariant-loop-j : goal.invariant-loop-j
invariant-loop-j l = l.axioms ≡ l.initial.axioms ++ map (class_filled l.size) (range_with_len 0 (l.j - 0))
