use Rattle.std.proofs.Common.{◌≡◌, ◌++◌, map, take, drop, slice_index}
use Rattle.dl_terms.specs.Renamed.{renamed_atom}
use Rattle.dl_names.proofs.frozen.Ranks.rank_atoms.Given as goal

abbrev pub invariant-loop-atom : goal.invariant-loop-atom
invariant-loop-atom l = l.atoms ≡ map (renamed_atom (slice_index l.self)) (take l.atom-index l.fn.atoms) ++ drop l.atom-index l.fn.atoms
