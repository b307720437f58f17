use Rattle.std.proofs.Common.{sym, subst}
use Rattle.std.specs.List.{All}
use Rattle.std.proofs.lemmas.List.Elements.{All-push}
use Rattle.dl_event.specs.Auxiliaries.{ItemHasNoAuxiliary}
use Rattle.dl_tests_store.proofs.store.edits_of.Goals as goal

pub loop-row-preserved : goal.loop-row-preserved
loop-row-preserved c =
    let all = All-push (λ e. ItemHasNoAuxiliary e.item) c.loop-row.edits c.in_ok-edit.edit c.loop-row.invariant c.in_ok-edit.ensures in
    subst (All (λ e. ItemHasNoAuxiliary e.item)) (sym c.in_ok-push.ensures.ok) all
