use Rattle.std.proofs.Common.{◌≡◌, ◌++◌, map, take, drop, slice_index}
use Rattle.dl_terms.specs.Renamed.{renamed_part}
use Rattle.dl_names.proofs.frozen.Ranks.rank_parts.Given as goal

abbrev pub invariant-loop-part : goal.invariant-loop-part
invariant-loop-part l = l.parts ≡ map (renamed_part (slice_index l.self)) (take l.part-index l.fn.parts) ++ drop l.part-index l.fn.parts
