use Rattle.dl_terms.specs.Order.{fact_cmp}
use Rattle.dl_edits.proofs.SetOfLemmas.{set_derived}
use Rattle.dl_edits.proofs.sets.fact_set.Goals as goal

pub returns : goal.returns
returns c = set_derived _ fact_cmp c.facts_are_ordered.ensures.derived _ _ c.set_of.ensures
