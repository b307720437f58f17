use Rattle.std.proofs.Common.{◌≡◌, ◌++◌, map, take}
use Rattle.std.specs.List.{flat_map}
use Rattle.dl_rewrite.specs.Disjuncts.{part_probe}
use Rattle.dl_rewrite.specs.Steps.{part_at, term_at, outside_probe}
use Rattle.dl_rewrite.proofs.disjunct.probes_of.Given as goal

abbrev pub invariant-loop-part : goal.invariant-loop-part
invariant-loop-part l =
    l.probes ≡ flat_map (outside_probe l.variables l.set l.to) l.atoms
    ++ map (λ m. part_probe (term_at l.to) (part_at l.variables l.table m)) (take l.part-index l.parts)
