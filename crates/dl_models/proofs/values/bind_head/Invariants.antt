use Rattle.std.proofs.Common.{take}
use Rattle.dl_models.specs.Meaning.{GivesHead}
use Rattle.dl_models.specs.Structures.{finite}
use Rattle.dl_models.specs.Values.{Adds}
use Rattle.dl_models.proofs.values.bind_head.Given as goal

abbrev pub invariant-loop-i : goal.invariant-loop-i
invariant-loop-i l =
    Adds (λ m. GivesHead (finite l.model) m (take l.i l.head) (take l.i l.tuple)) l.initial.values.items l.values.items
