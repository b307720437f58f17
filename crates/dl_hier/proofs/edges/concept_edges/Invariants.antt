use Rattle.std.proofs.Common.{take}
use Rattle.dl_terms.specs.declared.role.Basic.TheVariants.{Class}
use Rattle.dl_hier.specs.Predicates.{basics}
use Rattle.dl_hier.specs.Graphs.{AreEdges}
use Rattle.dl_hier.proofs.edges.concept_edges.Given as goal

abbrev pub invariant-loop-sub : goal.invariant-loop-sub
invariant-loop-sub l = AreEdges (Class 0) (basics l.nodes) (take l.sub-index l.rows) l.edges.items
