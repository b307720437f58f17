use Rattle.std.proofs.Common.{ℕ, ◌<◌, get_or}
use Rattle.dl_reach.specs.Chain.{Chain}
use Rattle.dl_reach.specs.Digraph.{IsEdge}
use Rattle.dl_hier.proofs.below.leads_to_one_of.Given as goal

abbrev pub invariant-loop-target : goal.invariant-loop-target
invariant-loop-target l = (k : ℕ) → k < l.target-index → Chain (IsEdge l.ways.graph) l.node (get_or l.targets k 0) → ⊥
