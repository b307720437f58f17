use Rattle.dl_hier.specs.Predicates.{roles}
use Rattle.dl_tree.proofs.TableLemmas.{table_same}
use Rattle.dl_tree.proofs.table.TreeTable.build.Goals as goal

pub returns-clause-exact : goal.returns-clause-exact
returns-clause-exact c = λ axioms of.
    table_same axioms (roles c.args.hier.now.predicates) c.args.query.now c.in_ok-rows.rows c.in_ok-padded.field-0 c.in_ok-padded.ensures.same
    (c.in_ok-rows.ensures.exact axioms of)
