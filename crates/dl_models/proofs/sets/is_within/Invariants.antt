use Rattle.std.proofs.Common.{ℕ, ◌<◌}
use Rattle.dl_models.specs.Meaning.{IsInBasic}
use Rattle.dl_models.specs.Structures.{finite}
use Rattle.dl_models.proofs.sets.is_within.Given as goal

abbrev pub invariant-loop-x : goal.invariant-loop-x
invariant-loop-x l = (x : ℕ) → x < l.x → IsInBasic (finite l.model) l.one x → IsInBasic (finite l.model) l.two x
