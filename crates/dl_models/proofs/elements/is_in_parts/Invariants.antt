use Rattle.std.proofs.Common.{take}
use Rattle.std.specs.List.{All}
use Rattle.dl_models.specs.Meaning.{IsInPart}
use Rattle.dl_models.specs.Structures.{finite}
use Rattle.dl_models.proofs.elements.is_in_parts.Given as goal

abbrev pub invariant-loop-part : goal.invariant-loop-part
invariant-loop-part l = All (IsInPart (finite l.model) l.x) (take l.part-index l.parts)
