use Rattle.std.specs.List.{All}
use Rattle.dl_event.specs.Auxiliaries.{ItemHasNoAuxiliary}
use Rattle.dl_tests_store.proofs.store.edits_of.Given as goal

abbrev pub invariant-loop-row : goal.invariant-loop-row
invariant-loop-row l = All (λ e. ItemHasNoAuxiliary e.item) l.edits
