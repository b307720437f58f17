use Rattle.std.proofs.Common.{take}
use Rattle.std.specs.List.{Contains}
use Rattle.dl_join.specs.Gathering.{Gathers}
use Rattle.dl_join.proofs.gather.Gathered.add_all.Given as goal

abbrev pub invariant-loop-tuple : goal.invariant-loop-tuple
invariant-loop-tuple l = Gathers (Contains (take l.tuple-index l.tuples)) l.initial.self l.self
