use Rattle.std.proofs.Common.{◌≡◌, ◌++◌, map, take, drop, slice_index}
use Rattle.dl_terms.specs.Renamed.{renamed_basic}
use Rattle.dl_names.proofs.frozen.Ranks.rank_basics.Given as goal

abbrev pub invariant-loop-basic : goal.invariant-loop-basic
invariant-loop-basic l = l.basics ≡ map (renamed_basic (slice_index l.self)) (take l.basic-index l.fn.basics) ++ drop l.basic-index l.fn.basics
