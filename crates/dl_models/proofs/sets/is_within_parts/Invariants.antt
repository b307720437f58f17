use Rattle.std.proofs.Common.{ℕ, ◌<◌}
use Rattle.dl_models.specs.Meaning.{IsInBasic, IsInPart}
use Rattle.dl_models.specs.Structures.{finite}
use Rattle.std.specs.List.{All}
use Rattle.dl_models.proofs.sets.is_within_parts.Given as goal

abbrev pub invariant-loop-x : goal.invariant-loop-x
invariant-loop-x l = (x : ℕ) → x < l.x → IsInBasic (finite l.model) l.basic x → All (IsInPart (finite l.model) x) l.parts
