use Rattle.std.proofs.Common.{◌≡◌, map, take}
use Rattle.dl_hier.specs.Ways.{kept_edge}
use Rattle.dl_hier.proofs.ways.kept_edges.Given as goal

abbrev pub invariant-loop-from : goal.invariant-loop-from
invariant-loop-from l = l.kept.items ≡ map (kept_edge l.first l.rest) (take l.from-index l.edges)
