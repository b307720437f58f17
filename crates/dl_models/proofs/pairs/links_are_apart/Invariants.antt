use Rattle.std.proofs.Common.{ℕ, ◌<◌}
use Rattle.dl_models.specs.Meaning.{RoleLinks}
use Rattle.dl_models.specs.Structures.{finite}
use Rattle.dl_models.proofs.pairs.links_are_apart.Given as goal

abbrev pub invariant-loop-y : goal.invariant-loop-y
invariant-loop-y l = (y : ℕ) → y < l.y → RoleLinks (finite l.model) l.one l.x y → ¬ RoleLinks (finite l.model) l.two l.x y
