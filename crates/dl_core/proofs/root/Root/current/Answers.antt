use Rattle.std.proofs.Common.{subst, ap, ◌∙◌}
use Rattle.std.specs.Arc.{arc_value}
use Rattle.dl_core.specs.Held.{IsBookOf}
use Rattle.dl_core.specs.declared.held.Held.{Held}
use Rattle.dl_core.proofs.HeldLemmas.{last_entry}
use Rattle.dl_core.proofs.root.Root.current.Goals as goal

pub returns : goal.returns
returns c =
    let held = arc_value c.self.inside.held in
    let tells = subst (λ r. IsBookOf r held.book) c.self.view_is c.self.invariant.tells in
    let are = c.entries-entries.ensures.entries ∙ ap (λ (h : Held). h.book.epochs) c.deref.ensures in
    let last = last_entry c.args.self.now held.book c.entries-entries.result.now c.index-entries-entries.result tells are c.index-entries-entries.is in
    record { epoch = last.0; rows = last.1; frozen = last.2 }
