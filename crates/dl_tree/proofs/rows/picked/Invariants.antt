use Rattle.std.proofs.Common.{◌-◌, length}
use Rattle.dl_terms.specs.Order.{role_cmp}
use Rattle.dl_hier.proofs.PickLemmas.{ArePickedTo}
use Rattle.dl_tree.specs.Rows.{HasBit}
use Rattle.dl_tree.proofs.rows.picked.Given as goal

abbrev pub invariant-loop-i : goal.invariant-loop-i
invariant-loop-i l = ArePickedTo role_cmp l.listed (HasBit l.row) l.start l.found

abbrev pub decreases-loop-i : goal.decreases-loop-i
decreases-loop-i l = length l.listed - l.start
