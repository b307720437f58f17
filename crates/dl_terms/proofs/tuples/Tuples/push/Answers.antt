use Rattle.dl_terms.proofs.TableLemmas.{table_push}
use Rattle.dl_terms.proofs.tuples.Tuples.push.Goals as goal

pub returns-clause-ok : goal.returns-clause-ok
returns-clause-ok c =
    table_push c.args.self.now c.self.inside.width c.self.inside.count c.in-Some.count c.self.inside.names.items c.extend_from_slice.new.self.items c.args.tuple.now c.self.view_is c.self.invariant c.requires c.in_ok-extend_from_slice.ensures.items c.in-Some.ensures.1
