use Rattle.std.proofs.Common.{take}
use Rattle.dl_hier.specs.Predicates.{basics}
use Rattle.dl_hier.specs.Picking.{AreTargets}
use Rattle.dl_hier.proofs.hier.targets.Given as goal

abbrev pub invariant-loop-term : goal.invariant-loop-term
invariant-loop-term l = AreTargets (basics l.nodes) (take l.term-index l.terms) l.targets.items
