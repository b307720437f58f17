use Rattle.std.proofs.Common.{◌≡◌, drop}
use Rattle.std.specs.BTreeMap.{get}
use Rattle.std.specs.declared.option.Option.TheVariants.{None}
use Rattle.dl_terms.specs.Order.{fact_cmp}
use Rattle.dl_terms.specs.declared.axiom.Fact.{Fact}
use Rattle.dl_edits.specs.Decided.{said}
use Rattle.dl_edits.proofs.fact_edits.said_facts.Given as goal

abbrev pub invariant-loop-edit : goal.invariant-loop-edit
invariant-loop-edit l = (f : Fact) → said (drop l.edit-index l.edits) f (get fact_cmp l.facts f) ≡ said l.edits f None
