use Rattle.dl_terms.specs.Order.{fact_cmp}
use Rattle.dl_edits.proofs.SetOfLemmas.{ascends_derived}
use Rattle.dl_edits.proofs.sets.facts_ascend.Goals as goal

pub returns : goal.returns
returns c =
    ascends_derived _ fact_cmp c.facts_are_ordered.ensures.derived c.ascends.result c.args.facts.now c.ascends.ensures
