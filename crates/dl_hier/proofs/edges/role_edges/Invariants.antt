use Rattle.std.proofs.Common.{take}
use Rattle.dl_terms.specs.Roles.{named}
use Rattle.dl_hier.specs.Predicates.{roles}
use Rattle.dl_hier.specs.Rows.{role_steps}
use Rattle.dl_hier.specs.Graphs.{AreEdges}
use Rattle.dl_hier.proofs.edges.role_edges.Given as goal

abbrev pub invariant-loop-sub : goal.invariant-loop-sub
invariant-loop-sub l = AreEdges (named 0) (roles l.nodes) (role_steps (take l.sub-index l.rows)) l.edges.items
