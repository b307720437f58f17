use Rattle.std.proofs.Common.{All, Contains, take}
use Rattle.dl_hier.specs.Predicates.{basics}
use Rattle.dl_hier.proofs.fit.knows_basics.Given as goal

abbrev pub invariant-loop-row : goal.invariant-loop-row
invariant-loop-row l = All (λ p. Contains (basics l.nodes) p.0 × Contains (basics l.nodes) p.1) (take l.row-index l.rows)
