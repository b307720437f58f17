use Rattle.std.proofs.Common.{◌≡◌, drop}
use Rattle.std.specs.List.Sorted.{IsStrictlySortedBy}
use Rattle.dl_terms.specs.Order.{axiom_cmp}
use Rattle.dl_edits.specs.Edits.{edited_axioms}
use Rattle.dl_edits.proofs.axiom_edits.edited_set.Given as goal

abbrev pub invariant-loop-edit : goal.invariant-loop-edit
invariant-loop-edit l = record {
  rest : edited_axioms (drop l.edit-index l.edits) l.set.keys ≡ edited_axioms l.edits l.axioms;
  ascending : IsStrictlySortedBy axiom_cmp l.set.keys;
}
