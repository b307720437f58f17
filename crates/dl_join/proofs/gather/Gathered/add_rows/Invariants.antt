use Rattle.std.proofs.Common.{map, take}
use Rattle.std.specs.List.{Contains}
use Rattle.dl_join.specs.Direct.{row_of}
use Rattle.dl_join.specs.Gathering.{Gathers}
use Rattle.dl_join.proofs.gather.Gathered.add_rows.Given as goal

abbrev pub invariant-loop-pair : goal.invariant-loop-pair
invariant-loop-pair l = Gathers (Contains (map (row_of l.column l.width) (take l.pair-index l.pairs))) l.initial.self l.self
