use Rattle.std.proofs.Common.{◌+◌, ap, arith}
use Rattle.dl_hier.proofs.HierLemmas.{targets_within, basic_nodes_few, some_nodes, class_nodes, classes_below, plain_below, inverse_below}
use Rattle.dl_hier.proofs.hier.Hier.predicates_below.Goals as goal

pub names_leading-requires-clause-few : goal.names_leading-requires-clause-few
names_leading-requires-clause-few c = basic_nodes_few c.self.inside.nodes c.self.inside.roles c.self.inside.role_ways.graph c.self.inside.basic_ways.graph c.self.invariant.graphs

pub names_leading-requires-clause-nodes : goal.names_leading-requires-clause-nodes
names_leading-requires-clause-nodes c = class_nodes c.self.inside.nodes c.self.inside.roles c.self.inside.role_ways.graph c.self.inside.basic_ways.graph c.self.invariant.graphs c.classes-classes.result.now c.classes-classes.ensures

pub names_leading-requires-clause-targets : goal.names_leading-requires-clause-targets
names_leading-requires-clause-targets c =
    targets_within _ _ c.in_ok-targets.targets.items c.deref.result.now c.self.inside.basic_ways.graph.nodes c.in_ok-targets.ensures
    c.self.invariant.graphs.basic_nodes c.deref.ensures.value

pub names_leading-requires-2-clause-few : goal.names_leading-requires-2-clause-few
names_leading-requires-2-clause-few c = basic_nodes_few c.self.inside.nodes c.self.inside.roles c.self.inside.role_ways.graph c.self.inside.basic_ways.graph c.self.invariant.graphs

pub names_leading-requires-2-clause-nodes : goal.names_leading-requires-2-clause-nodes
names_leading-requires-2-clause-nodes c = some_nodes c.self.inside.nodes c.self.inside.roles c.self.inside.role_ways.graph c.self.inside.basic_ways.graph c.self.invariant.graphs c.properties-properties.result.now c.properties-properties.ensures c.class_count-count.result c.class_count-count.result
    c.class_count-count.ensures (omega arith)

pub names_leading-requires-2-clause-targets : goal.names_leading-requires-2-clause-targets
names_leading-requires-2-clause-targets c =
    targets_within _ _ c.in_ok-targets.targets.items c.deref-2.result.now c.self.inside.basic_ways.graph.nodes c.in_ok-targets.ensures
    c.self.invariant.graphs.basic_nodes c.deref-2.ensures.value

pub names_leading-requires-3-clause-few : goal.names_leading-requires-3-clause-few
names_leading-requires-3-clause-few c = basic_nodes_few c.self.inside.nodes c.self.inside.roles c.self.inside.role_ways.graph c.self.inside.basic_ways.graph c.self.invariant.graphs

pub names_leading-requires-3-clause-nodes : goal.names_leading-requires-3-clause-nodes
names_leading-requires-3-clause-nodes c = some_nodes c.self.inside.nodes c.self.inside.roles c.self.inside.role_ways.graph c.self.inside.basic_ways.graph c.self.invariant.graphs c.properties-properties.result.now c.properties-properties.ensures (c.class_count-count.result + 1) c.class_count-count.result
    c.class_count-count.ensures (omega arith)

pub names_leading-requires-3-clause-targets : goal.names_leading-requires-3-clause-targets
names_leading-requires-3-clause-targets c =
    targets_within _ _ c.in_ok-targets.targets.items c.deref-3.result.now c.self.inside.basic_ways.graph.nodes c.in_ok-targets.ensures
    c.self.invariant.graphs.basic_nodes c.deref-3.ensures.value

pub returns-clause-classes : goal.returns-clause-classes
returns-clause-classes c = λ axioms of.
    classes_below c.self.inside.nodes c.self.inside.roles c.self.inside.role_ways.graph c.self.inside.basic_ways.graph c.self.invariant.graphs c.args.self.now c.self.view_is axioms of c.args.basics.now c.in_ok-targets.targets.items c.deref.result.now c.in_ok-targets.ensures
    c.deref.ensures.value
    c.classes-classes.result.now c.in_ok-names_leading.field-0 c.classes-classes.ensures c.in_ok-names_leading.ensures

pub returns-clause-forward : goal.returns-clause-forward
returns-clause-forward c = λ axioms of.
    plain_below c.self.inside.nodes c.self.inside.roles c.self.inside.role_ways.graph c.self.inside.basic_ways.graph c.self.invariant.graphs c.args.self.now c.self.view_is axioms of c.args.basics.now c.in_ok-targets.targets.items c.deref-2.result.now c.in_ok-targets.ensures
    c.deref-2.ensures.value
    c.properties-properties.result.now c.in_ok-names_leading-2.field-0 c.class_count-count.result c.class_count-count.ensures
    c.properties-properties.ensures c.in_ok-names_leading-2.ensures

pub returns-clause-backward : goal.returns-clause-backward
returns-clause-backward c = λ axioms of.
    inverse_below c.self.inside.nodes c.self.inside.roles c.self.inside.role_ways.graph c.self.inside.basic_ways.graph c.self.invariant.graphs c.args.self.now c.self.view_is axioms of c.args.basics.now c.in_ok-targets.targets.items c.deref-3.result.now c.in_ok-targets.ensures
    c.deref-3.ensures.value
    c.properties-properties.result.now c.in_ok-names_leading-3.field-0 (c.class_count-count.result + 1) (ap (λ n. n + 1) c.class_count-count.ensures)
    c.properties-properties.ensures c.in_ok-names_leading-3.ensures
