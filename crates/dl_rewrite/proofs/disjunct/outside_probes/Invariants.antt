use Rattle.std.proofs.Common.{◌≡◌, take}
use Rattle.std.specs.List.{flat_map}
use Rattle.dl_rewrite.specs.Steps.{outside_probe}
use Rattle.dl_rewrite.proofs.disjunct.outside_probes.Given as goal

abbrev pub invariant-loop-atom : goal.invariant-loop-atom
invariant-loop-atom l = l.probes ≡ flat_map (outside_probe l.variables l.set l.to) (take l.atom-index l.atoms)
