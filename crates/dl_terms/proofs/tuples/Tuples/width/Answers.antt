use Rattle.dl_terms.proofs.TableLemmas.{table_widths}
use Rattle.dl_terms.proofs.tuples.Tuples.width.Goals as goal

pub returns-clause-each : goal.returns-clause-each
returns-clause-each c = table_widths _ _ _ _ c.self.view_is c.self.invariant
