use Rattle.std.proofs.Common.{◌≡◌, ◌++◌, map, take}
use Rattle.dl_hier.specs.Graphs.{shifted}
use Rattle.dl_hier.proofs.edges.push_shifted.Given as goal

abbrev pub invariant-loop-from : goal.invariant-loop-from
invariant-loop-from l = l.edges.items ≡ l.initial.edges.items ++ map (shifted l.by) (take l.from-index l.more)
