use Rattle.std.proofs.Common.{◌≡◌, ◌++◌, take}
use Rattle.std.specs.List.{flat_map}
use Rattle.dl_rewrite.specs.Steps.{atom_pairs}
use Rattle.dl_rewrite.proofs.parts.push_part.Given as goal

abbrev pub invariant-loop-atom : goal.invariant-loop-atom
invariant-loop-atom l =
    l.pairs.items ≡ l.initial.pairs.items ++ flat_map (atom_pairs l.variables l.part) (take l.atom-index l.atoms)
