use Rattle.std.proofs.Common.{take}
use Rattle.std.specs.List.{All}
use Rattle.dl_models.specs.Meaning.{StandsFor}
use Rattle.dl_models.specs.Structures.{finite}
use Rattle.dl_models.specs.Values.{Adds}
use Rattle.dl_models.proofs.values.bind_all.Given as goal

abbrev pub invariant-loop-term : goal.invariant-loop-term
invariant-loop-term l =
    Adds (λ m. All (λ t. StandsFor (finite l.model) m t.0 t.1) (take l.term-index l.terms)) l.initial.values.items l.values.items
