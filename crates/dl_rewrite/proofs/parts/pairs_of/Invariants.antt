use Rattle.std.proofs.Common.{◌≡◌, take}
use Rattle.std.specs.List.{flat_map}
use Rattle.dl_rewrite.specs.Steps.{part_pairs}
use Rattle.dl_rewrite.proofs.parts.pairs_of.Given as goal

abbrev pub invariant-loop-part : goal.invariant-loop-part
invariant-loop-part l = l.pairs.items ≡ flat_map (part_pairs l.variables l.atoms) (take l.part-index l.parts)
