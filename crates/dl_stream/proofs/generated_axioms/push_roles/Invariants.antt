use Rattle.std.proofs.Common.{◌≡◌, ◌++◌, ◌-◌, map}
use Rattle.std.specs.List.{range_with_len}
use Rattle.dl_stream.specs.Generator.{role_below}
use Rattle.dl_stream.proofs.generated_axioms.push_roles.Given as goal

abbrev pub invariant-loop-j : goal.invariant-loop-j
invariant-loop-j l = l.axioms ≡ l.initial.axioms ++ map (role_below l.size) (range_with_len 1 (l.j - 1))
