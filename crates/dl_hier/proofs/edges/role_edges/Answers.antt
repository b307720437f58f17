use Rattle.std.proofs.Common.{Contains, get_or, sym, subst}
use Rattle.dl_terms.specs.Roles.{named}
use Rattle.dl_hier.specs.Predicates.{roles}
use Rattle.dl_hier.specs.Nodes.{StandsAt}
use Rattle.dl_hier.proofs.PredicateLemmas.{inverse-known}
use Rattle.dl_hier.proofs.GraphLemmas.{role_edges_row}
use Rattle.dl_hier.proofs.edges.role_edges.Goals as goal

pub node_of_role-requires : goal.node_of_role-requires
node_of_role-requires c = (c.requires c.loop-sub.sub-index (named 0, named 0) c.loop-sub-test.true).0

pub node_of_role-requires-in-loop-sub : goal.node_of_role-requires-in-loop-sub
node_of_role-requires-in-loop-sub c = (c.requires c.loop-sub.sub-index (named 0, named 0) c.loop-sub-test.true).1

pub node_of_role-requires-in-loop-sub-2 : goal.node_of_role-requires-in-loop-sub-2
node_of_role-requires-in-loop-sub-2 c =
    let row = get_or c.args.rows.now c.loop-sub.sub-index (named 0, named 0) in
    subst (Contains (roles c.args.nodes.now)) (sym c.inverse-one.ensures)
    (inverse-known c.args.nodes.now row.0 (c.requires c.loop-sub.sub-index (named 0, named 0) c.loop-sub-test.true).0)

pub node_of_role-requires-in-loop-sub-3 : goal.node_of_role-requires-in-loop-sub-3
node_of_role-requires-in-loop-sub-3 c =
    let row = get_or c.args.rows.now c.loop-sub.sub-index (named 0, named 0) in
    subst (Contains (roles c.args.nodes.now)) (sym c.inverse-other.ensures)
    (inverse-known c.args.nodes.now row.1 (c.requires c.loop-sub.sub-index (named 0, named 0) c.loop-sub-test.true).1)

pub loop-sub-preserved : goal.loop-sub-preserved
loop-sub-preserved c =
    let terms = roles c.args.nodes.now in
    role_edges_row terms c.args.rows.now c.loop-sub.sub-index (named 0, named 0) c.loop-sub.edges.items c.push.new.self.items
    c.push-in-loop-sub.new.self.items c.node_of_role.result c.node_of_role-in-loop-sub.result c.node_of_role-in-loop-sub-2.result
    c.node_of_role-in-loop-sub-3.result c.loop-sub-test.true c.loop-sub.invariant c.node_of_role.ensures c.node_of_role-in-loop-sub.ensures
    c.in_ok-push.ensures.items (subst (StandsAt terms _) c.inverse-one.ensures c.node_of_role-in-loop-sub-2.ensures)
    (subst (StandsAt terms _) c.inverse-other.ensures c.node_of_role-in-loop-sub-3.ensures) c.in_ok-push-2.ensures.items
