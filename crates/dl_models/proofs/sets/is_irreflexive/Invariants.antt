use Rattle.std.proofs.Common.{ℕ, ◌<◌}
use Rattle.dl_models.specs.Meaning.{RoleLinks}
use Rattle.dl_models.specs.Structures.{finite}
use Rattle.dl_models.proofs.sets.is_irreflexive.Given as goal

abbrev pub invariant-loop-x : goal.invariant-loop-x
invariant-loop-x l = (x : ℕ) → x < l.x → ¬ RoleLinks (finite l.model) l.role x x
