use Rattle.std.proofs.Common.{◌≡◌, drop}
use Rattle.std.specs.List.{list_any}
use Rattle.dl_edits.specs.Decided.{is_axiom}
use Rattle.dl_edits.proofs.axiom_edits.has_axiom.Given as goal

abbrev pub invariant-loop-edit : goal.invariant-loop-edit
invariant-loop-edit l = list_any (λ e. is_axiom e.item) (drop l.edit-index l.edits) ≡ list_any (λ e. is_axiom e.item) l.edits
