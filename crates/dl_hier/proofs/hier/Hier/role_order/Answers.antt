use Rattle.std.proofs.Common.{◌≡◌, ℕ, ◌*◌, ◌+◌, ◌<◌, ◌↔◌, List, length, slice_index_or, sym, ap, lit≤, arith}
use Rattle.std.proofs.lemmas.Result.{IfOk-weaker}
use Rattle.dl_terms.specs.Below.{RoleBelow}
use Rattle.dl_terms.specs.Roles.{named}
use Rattle.dl_terms.specs.declared.axiom.Axiom.{Axiom}
use Rattle.dl_reach.specs.Chain.{Chain}
use Rattle.dl_reach.specs.Digraph.{IsEdge}
use Rattle.dl_hier.specs.Hierarchy.{IsHierarchyOf}
use Rattle.dl_hier.proofs.QueryLemmas.{then}
use Rattle.dl_hier.proofs.HierLemmas.{property_nodes, role_chains}
use Rattle.dl_hier.proofs.hier.Hier.role_order.Goals as goal

pub among-requires-clause-nodes : goal.among-requires-clause-nodes
among-requires-clause-nodes c =
    property_nodes c.self.inside.nodes c.self.inside.roles c.self.inside.role_ways.graph c.self.inside.basic_ways.graph c.self.invariant.graphs
    c.properties.result.now c.properties.ensures 0 (lit≤ tt)

pub returns-clause-below : goal.returns-clause-below
returns-clause-below c =
    let w = c.self.inside in
    let same : length c.args.self.now.predicates.properties ≡ length w.nodes.properties = ap (λ h. length h.predicates.properties) (sym c.self.view_is) in
    let count : length c.properties.result.now ≡ length w.nodes.properties = ap length c.properties.ensures in
    IfOk-weaker c.among.result
    (λ order. (i j : ℕ) → i < length c.properties.result.now → j < length c.properties.result.now → Chain (IsEdge order) i j
    ↔ Chain (IsEdge w.role_ways.graph) (0 + i * 2) (0 + j * 2))
    (λ order. (axioms : List Axiom) → IsHierarchyOf c.args.self.now axioms
    → (i j : ℕ) → i < length c.args.self.now.predicates.properties → j < length c.args.self.now.predicates.properties → Chain (IsEdge order) i j
    ↔ RoleBelow axioms (named (slice_index_or c.args.self.now.predicates.properties i 0)) (named (slice_index_or c.args.self.now.predicates.properties j 0)))
    (λ order chains axioms of i j i_in j_in.
    then (chains i j (omega (arith, i_in, same, count)) (omega (arith, j_in, same, count)))
    (role_chains w.nodes w.roles w.role_ways.graph w.basic_ways.graph c.self.invariant.graphs c.args.self.now c.self.view_is axioms of i j
    (omega (arith, i_in, same)) (omega (arith, j_in, same))))
    c.among.ensures.chains
