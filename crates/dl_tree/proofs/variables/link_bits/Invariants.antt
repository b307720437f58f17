use Rattle.std.proofs.Common.{◌≡◌, take}
use Rattle.std.specs.List.{flat_map}
use Rattle.dl_tree.specs.Masks.{atom_links}
use Rattle.dl_tree.proofs.variables.link_bits.Given as goal

abbrev pub invariant-loop-atom : goal.invariant-loop-atom
invariant-loop-atom l = l.links.items ≡ flat_map (atom_links l.variables) (take l.atom-index l.atoms)
