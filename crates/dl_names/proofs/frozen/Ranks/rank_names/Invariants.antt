use Rattle.std.proofs.Common.{◌≡◌, ◌++◌, map, take, drop, slice_index}
use Rattle.dl_names.proofs.frozen.Ranks.rank_names.Given as goal

abbrev pub invariant-loop-name : goal.invariant-loop-name
invariant-loop-name l = l.names ≡ map (slice_index l.self) (take l.name-index l.fn.names) ++ drop l.name-index l.fn.names
