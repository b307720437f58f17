use Rattle.std.proofs.Common.{◌+◌}
use Rattle.dl_terms.specs.Order.{role_cmp}
use Rattle.dl_reach.specs.Chain.{Chain}
use Rattle.dl_reach.specs.Digraph.{IsEdge}
use Rattle.dl_hier.proofs.PickLemmas.{ArePickedTo}
use Rattle.dl_hier.proofs.below.roles_reached.Given as goal

abbrev pub invariant-loop-i : goal.invariant-loop-i
invariant-loop-i l = ArePickedTo role_cmp l.roles (λ k. Chain (IsEdge l.ways.graph) l.from (l.first + k)) l.i l.found
