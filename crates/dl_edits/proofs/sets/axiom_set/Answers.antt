use Rattle.dl_terms.specs.Order.{axiom_cmp}
use Rattle.dl_edits.proofs.SetOfLemmas.{set_derived}
use Rattle.dl_edits.proofs.sets.axiom_set.Goals as goal

pub returns : goal.returns
returns c = set_derived _ axiom_cmp c.axioms_are_ordered.ensures.derived _ _ c.set_of.ensures
