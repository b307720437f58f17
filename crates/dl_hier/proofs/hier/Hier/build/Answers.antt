use Rattle.std.proofs.Common.{All, Contains, length, sym, subst, arith}
use Rattle.dl_reach.specs.Digraph.{EndsBelow}
use Rattle.dl_hier.specs.Predicates.{roles, basics}
use Rattle.dl_hier.proofs.NameLemmas.{role_rows_known, concept_rows_known}
use Rattle.dl_hier.proofs.HierLemmas.{basics_few}
use Rattle.dl_hier.proofs.GraphLemmas.{built, built_basics, built_hierarchy}
use Rattle.dl_hier.proofs.hier.Hier.build.Goals as goal

pub of-requires : goal.of-requires
of-requires c = c.requires.few

pub role_edges-requires : goal.role_edges-requires
role_edges-requires c =
    let p = c.in_ok-nodes.nodes in
    subst (All (λ q. Contains (roles p) q.0 × Contains (roles p) q.1)) (sym c.as_slice.ensures)
    (role_rows_known c.args.signature.now c.args.normal.now p c.in_ok-nodes.ensures.predicates c.requires.names)

pub basic_edges-requires-clause-rows : goal.basic_edges-requires-clause-rows
basic_edges-requires-clause-rows c =
    let p = c.in_ok-nodes.nodes in
    subst (All (λ q. Contains (basics p) q.0 × Contains (basics p) q.1)) (sym c.as_slice-concepts.ensures)
    (concept_rows_known c.args.signature.now c.args.normal.now p c.in_ok-nodes.ensures.predicates c.requires.names)

pub basic_edges-requires-clause-few : goal.basic_edges-requires-clause-few
basic_edges-requires-clause-few c = omega (arith, basics_few c.in_ok-nodes.nodes c.in_ok-nodes.ensures.order)

pub basic_edges-requires-clause-ends : goal.basic_edges-requires-clause-ends
basic_edges-requires-clause-ends c =
    subst (EndsBelow (length (roles c.in_ok-nodes.nodes))) (sym c.deref.ensures.value) c.in_ok-role_edges.ensures.ends

pub ways-requires-clause-few : goal.ways-requires-clause-few
ways-requires-clause-few c = omega (arith, basics_few c.in_ok-nodes.nodes c.in_ok-nodes.ensures.order)

pub ways-requires-clause-role_ends : goal.ways-requires-clause-role_ends
ways-requires-clause-role_ends c =
    subst (EndsBelow (length (roles c.in_ok-nodes.nodes))) (sym c.deref-2.ensures.value) c.in_ok-role_edges.ensures.ends

pub ways-requires-clause-basic_ends : goal.ways-requires-clause-basic_ends
ways-requires-clause-basic_ends c =
    let p = c.in_ok-nodes.nodes in
    let normal = c.args.normal.now in
    subst (EndsBelow (length (basics p))) (sym c.deref-3.ensures.value) (built_basics p normal c.as_slice.result.now c.as_slice-concepts.result.now c.in_ok-role_edges.role_edges.items c.in_ok-basic_edges.basic_edges.items
    c.deref.result.now c.as_slice.ensures c.as_slice-concepts.ensures c.deref.ensures.value c.in_ok-role_edges.ensures c.in_ok-basic_edges.ensures).ends

pub invariant_of-result : goal.invariant_of-result
invariant_of-result c =
    let p = c.in_ok-nodes.nodes in
    let normal = c.args.normal.now in
    built p normal c.as_slice.result.now c.as_slice-concepts.result.now c.in_ok-role_edges.role_edges.items c.in_ok-basic_edges.basic_edges.items
    c.deref.result.now c.as_slice.ensures c.as_slice-concepts.ensures c.deref.ensures.value c.in_ok-role_edges.ensures c.in_ok-basic_edges.ensures
    c.deref-2.result.now c.deref-3.result.now c.deref-2.ensures.value c.deref-3.ensures.value c.in_ok-role_ways.role_ways
    c.in_ok-role_ways.basic_ways c.in_ok-role_ways.ensures.0 c.in_ok-role_ways.ensures.1 c.in_ok-roles.roles c.in_ok-nodes.ensures.order
    c.in_ok-roles.ensures

pub returns-clause-predicates : goal.returns-clause-predicates
returns-clause-predicates c = c.in_ok-nodes.ensures.predicates

pub returns-clause-hierarchy : goal.returns-clause-hierarchy
returns-clause-hierarchy c =
    let p = c.in_ok-nodes.nodes in
    let normal = c.args.normal.now in
    built_hierarchy p normal c.as_slice.result.now c.as_slice-concepts.result.now c.in_ok-role_edges.role_edges.items c.in_ok-basic_edges.basic_edges.items
    c.deref.result.now c.as_slice.ensures c.as_slice-concepts.ensures c.deref.ensures.value c.in_ok-role_edges.ensures c.in_ok-basic_edges.ensures
    c.deref-2.result.now c.deref-3.result.now c.deref-2.ensures.value c.deref-3.ensures.value c.in_ok-role_ways.role_ways
    c.in_ok-role_ways.basic_ways c.in_ok-role_ways.ensures.0 c.in_ok-role_ways.ensures.1
