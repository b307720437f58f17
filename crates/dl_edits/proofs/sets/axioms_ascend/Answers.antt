use Rattle.dl_terms.specs.Order.{axiom_cmp}
use Rattle.dl_edits.proofs.SetOfLemmas.{ascends_derived}
use Rattle.dl_edits.proofs.sets.axioms_ascend.Goals as goal

pub returns : goal.returns
returns c =
    ascends_derived _ axiom_cmp c.axioms_are_ordered.ensures.derived c.ascends.result c.args.axioms.now
    c.ascends.ensures
