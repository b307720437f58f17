use Rattle.dl_terms.specs.Queries.{is_existential}
use Rattle.std.proofs.Common.{sym, ap, ◌∙◌}
use Rattle.dl_tree.proofs.VariableLemmas.{found_next, found_same}
use Rattle.dl_tree.proofs.variables.existential_variables.Goals.{then-is_existential+in_ok-push, else-is_existential}
use Rattle.dl_tree.proofs.variables.existential_variables.Goals as goal

pub loop-v-preserved : goal.loop-v-preserved
loop-v-preserved c = elim c.if-is_existential.branch [
  | then-is_existential+in_ok-push w ↦
      found_next (is_existential c.args.query.now) c.loop-v.v c.loop-v.found.items c.if-is_existential.found.items c.loop-v.invariant
      (sym c.is_existential.ensures ∙ w.if-is_existential.true) (ap (λ l. l.items) w.found-is ∙ w.in_ok-push.ensures.items)
  | else-is_existential w ↦
      found_same (is_existential c.args.query.now) c.loop-v.v c.loop-v.found.items c.if-is_existential.found.items c.loop-v.invariant
      (sym c.is_existential.ensures ∙ w.if-is_existential.false) (ap (λ l. l.items) w.found-is)
]
