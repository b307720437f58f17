use Rattle.std.proofs.Common.{sym, ◌∙◌, true≢false}
use Rattle.dl_terms.specs.Queries.{existential_variables}
use Rattle.dl_tree.proofs.NumberingLemmas.{numbering}
use Rattle.dl_tree.proofs.folds.fold_row.Goals as goal

pub returns-then-is_connected : goal.returns-then-is_connected
returns-then-is_connected c = λ axioms q next.
    c.in_ok-connected_row.ensures axioms q next
    ((c.is_connected.ensures q (existential_variables q) next.plan.masks (numbering q) next.plan.few next.fits).0 c.if-is_connected.true)

pub returns : goal.returns
returns c = λ axioms q next all.
    true≢false (sym ((c.is_connected.ensures q (existential_variables q) next.plan.masks (numbering q) next.plan.few next.fits).1 all) ∙ c.if-is_connected.false)
