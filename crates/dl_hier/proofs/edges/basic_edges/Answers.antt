use Rattle.std.proofs.Common.{length, refl, arith}
use Rattle.dl_reach.specs.Digraph.{max_nodes}
use Rattle.dl_hier.specs.Predicates.{roles}
use Rattle.dl_hier.proofs.PredicateLemmas.{length-basics}
use Rattle.dl_hier.proofs.GraphLemmas.{all_edges, ends_at_most}
use Rattle.dl_hier.proofs.edges.basic_edges.Goals as goal

pub concept_edges-requires : goal.concept_edges-requires
concept_edges-requires c = c.requires.rows

pub push_shifted-requires-clause-by : goal.push_shifted-requires-clause-by
push_shifted-requires-clause-by c = omega (arith, c.class_count.ensures, length-basics c.args.nodes.now, c.requires.few)

pub push_shifted-requires-clause-ends : goal.push_shifted-requires-clause-ends
push_shifted-requires-clause-ends c =
    let p = c.args.nodes.now in
    ends_at_most (length (roles p)) max_nodes c.args.role_edges.now c.args.role_edges.now refl c.requires.ends
    (omega (arith, length-basics p, c.requires.few))

pub returns : goal.returns
returns c = λ steps of_roles.
    all_edges c.args.nodes.now steps c.args.role_edges.now c.args.role_edges.now c.args.rows.now c.in_ok-edges.edges.items
    c.push_shifted.new.edges.items c.class_count.result of_roles c.in_ok-edges.ensures c.class_count.ensures refl c.in_ok-push_shifted.ensures
