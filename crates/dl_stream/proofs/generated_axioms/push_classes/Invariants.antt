use Rattle.std.proofs.Common.{◌≡◌, ◌++◌, ◌-◌, map}
use Rattle.std.specs.List.{range_with_len}
use Rattle.dl_stream.specs.Generator.{class_below}
use Rattle.dl_stream.proofs.generated_axioms.push_classes.Given as goal

abbrev pub invariant-loop-i : goal.invariant-loop-i
invariant-loop-i l = l.axioms ≡ l.initial.axioms ++ map class_below (range_with_len 1 (l.i - 1))
