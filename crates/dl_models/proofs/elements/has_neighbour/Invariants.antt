use Rattle.std.proofs.Common.{ℕ, ◌<◌}
use Rattle.dl_models.specs.Meaning.{RoleLinks}
use Rattle.dl_models.specs.Structures.{finite}
use Rattle.dl_models.proofs.elements.has_neighbour.Given as goal

abbrev pub invariant-loop-y : goal.invariant-loop-y
invariant-loop-y l = (y : ℕ) → y < l.y → ¬ RoleLinks (finite l.model) l.role l.x y
