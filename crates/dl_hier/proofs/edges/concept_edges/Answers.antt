use Rattle.dl_terms.specs.declared.role.Basic.TheVariants.{Class}
use Rattle.dl_hier.specs.Predicates.{basics}
use Rattle.dl_hier.proofs.GraphLemmas.{edges_row}
use Rattle.dl_hier.proofs.edges.concept_edges.Goals as goal

pub node_of_basic-requires : goal.node_of_basic-requires
node_of_basic-requires c = (c.requires c.loop-sub.sub-index (Class 0, Class 0) c.loop-sub-test.true).0

pub node_of_basic-requires-in-loop-sub : goal.node_of_basic-requires-in-loop-sub
node_of_basic-requires-in-loop-sub c = (c.requires c.loop-sub.sub-index (Class 0, Class 0) c.loop-sub-test.true).1

pub loop-sub-preserved : goal.loop-sub-preserved
loop-sub-preserved c =
    edges_row (Class 0) (basics c.args.nodes.now) c.args.rows.now c.loop-sub.sub-index (Class 0, Class 0) c.loop-sub.edges.items c.push.new.self.items
    c.node_of_basic.result c.node_of_basic-in-loop-sub.result c.loop-sub-test.true c.loop-sub.invariant c.node_of_basic.ensures
    c.node_of_basic-in-loop-sub.ensures c.in_ok-push.ensures.items
