use Rattle.std.proofs.Common.{lit≤}
use Rattle.dl_hier.proofs.HierLemmas.{targets_within, role_nodes_few, property_nodes, forward_below, backward_below}
use Rattle.dl_hier.proofs.hier.Hier.roles_below.Goals as goal

pub names_leading-requires-clause-few : goal.names_leading-requires-clause-few
names_leading-requires-clause-few c = role_nodes_few c.self.inside.nodes c.self.inside.roles c.self.inside.role_ways.graph c.self.inside.basic_ways.graph c.self.invariant.graphs

pub names_leading-requires-clause-nodes : goal.names_leading-requires-clause-nodes
names_leading-requires-clause-nodes c = property_nodes c.self.inside.nodes c.self.inside.roles c.self.inside.role_ways.graph c.self.inside.basic_ways.graph c.self.invariant.graphs c.properties-properties.result.now c.properties-properties.ensures 0 (lit≤ tt)

pub names_leading-requires-clause-targets : goal.names_leading-requires-clause-targets
names_leading-requires-clause-targets c =
    targets_within _ _ c.in_ok-targets.targets.items c.deref.result.now c.self.inside.role_ways.graph.nodes c.in_ok-targets.ensures c.self.invariant.graphs.role_nodes
    c.deref.ensures.value

pub names_leading-requires-2-clause-few : goal.names_leading-requires-2-clause-few
names_leading-requires-2-clause-few c = role_nodes_few c.self.inside.nodes c.self.inside.roles c.self.inside.role_ways.graph c.self.inside.basic_ways.graph c.self.invariant.graphs

pub names_leading-requires-2-clause-nodes : goal.names_leading-requires-2-clause-nodes
names_leading-requires-2-clause-nodes c = property_nodes c.self.inside.nodes c.self.inside.roles c.self.inside.role_ways.graph c.self.inside.basic_ways.graph c.self.invariant.graphs c.properties-properties.result.now c.properties-properties.ensures 1 (lit≤ tt)

pub names_leading-requires-2-clause-targets : goal.names_leading-requires-2-clause-targets
names_leading-requires-2-clause-targets c =
    targets_within _ _ c.in_ok-targets.targets.items c.deref-2.result.now c.self.inside.role_ways.graph.nodes c.in_ok-targets.ensures
    c.self.invariant.graphs.role_nodes c.deref-2.ensures.value

pub returns-clause-forward : goal.returns-clause-forward
returns-clause-forward c = λ axioms of.
    forward_below c.self.inside.nodes c.self.inside.roles c.self.inside.role_ways.graph c.self.inside.basic_ways.graph c.self.invariant.graphs c.args.self.now c.self.view_is axioms of c.args.role c.in_ok-targets.targets.items c.deref.result.now c.in_ok-targets.ensures
    c.deref.ensures.value c.properties-properties.result.now c.in_ok-names_leading.field-0 c.properties-properties.ensures c.in_ok-names_leading.ensures

pub returns-clause-backward : goal.returns-clause-backward
returns-clause-backward c = λ axioms of.
    backward_below c.self.inside.nodes c.self.inside.roles c.self.inside.role_ways.graph c.self.inside.basic_ways.graph c.self.invariant.graphs c.args.self.now c.self.view_is axioms of c.args.role c.in_ok-targets.targets.items c.deref-2.result.now c.in_ok-targets.ensures
    c.deref-2.ensures.value c.properties-properties.result.now c.in_ok-names_leading-2.field-0 c.properties-properties.ensures
    c.in_ok-names_leading-2.ensures
