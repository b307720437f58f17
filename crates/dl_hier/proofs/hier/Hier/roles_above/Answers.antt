use Rattle.std.proofs.lemmas.Result.{IfOk-weaker}
use Rattle.dl_terms.specs.Order.{role_cmp}
use Rattle.dl_hier.proofs.HierLemmas.{sorted-none, role_nodes_few, list-ascends, above, above_none}
use Rattle.dl_hier.proofs.hier.Hier.roles_above.Goals as goal

pub roles_reached-requires-clause-few : goal.roles_reached-requires-clause-few
roles_reached-requires-clause-few c = role_nodes_few c.self.inside.nodes c.self.inside.roles c.self.inside.role_ways.graph c.self.inside.basic_ways.graph c.self.invariant.graphs

pub roles_reached-requires-clause-ascending : goal.roles_reached-requires-clause-ascending
roles_reached-requires-clause-ascending c = list-ascends c.self.inside.nodes c.self.inside.roles c.self.inside.role_ways.graph c.self.inside.basic_ways.graph c.self.invariant.graphs c.as_slice.result.now c.as_slice.ensures

pub returns-in-Some-clause-exact : goal.returns-in-Some-clause-exact
returns-in-Some-clause-exact c =
    IfOk-weaker c.roles_reached.result _ _ (λ found picked axioms of s.
    above c.self.inside.nodes c.self.inside.roles c.self.inside.role_ways.graph c.self.inside.basic_ways.graph c.self.invariant.graphs c.args.self.now c.self.view_is axioms of c.args.role c.in-Some.from c.in-Some.ensures c.as_slice.result.now found c.as_slice.ensures picked s)
    c.roles_reached.ensures

pub returns-in-None-clause-ascending : goal.returns-in-None-clause-ascending
returns-in-None-clause-ascending c = sorted-none role_cmp c.new.result c.new.ensures

pub returns-in-None-clause-exact : goal.returns-in-None-clause-exact
returns-in-None-clause-exact c = λ axioms of s. above_none c.self.inside.nodes c.self.inside.roles c.self.inside.role_ways.graph c.self.inside.basic_ways.graph c.self.invariant.graphs c.args.self.now c.self.view_is axioms of c.args.role c.in-None.ensures c.new.result c.new.ensures s
