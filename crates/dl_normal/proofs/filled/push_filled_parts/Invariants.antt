use Rattle.std.proofs.Common.{◌≡◌, ◌++◌, take, filter_map}
use Rattle.dl_normal.specs.Filled.{filled}
use Rattle.dl_normal.proofs.filled.push_filled_parts.Given as goal

abbrev pub invariant-loop-part : goal.invariant-loop-part
invariant-loop-part l = l.pairs ≡ l.initial.pairs ++ filter_map filled (take l.part-index l.parts)
