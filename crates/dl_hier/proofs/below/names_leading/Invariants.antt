use Rattle.std.proofs.Common.{◌+◌, ◌*◌}
use Rattle.std.specs.Ordering.{nat_cmp}
use Rattle.dl_hier.specs.Picking.{LeadsToOneOf}
use Rattle.dl_hier.proofs.PickLemmas.{ArePickedTo}
use Rattle.dl_hier.proofs.below.names_leading.Given as goal

abbrev pub invariant-loop-i : goal.invariant-loop-i
invariant-loop-i l = ArePickedTo nat_cmp l.names (λ k. LeadsToOneOf l.ways.graph l.targets (l.first + k * l.every)) l.i l.found
