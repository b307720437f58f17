use Rattle.std.proofs.Common.{◌≡◌, ℕ, ◌*◌, ◌+◌, ◌<◌, ◌↔◌, List, length, slice_index_or, sym, ap, arith}
use Rattle.std.proofs.lemmas.Result.{IfOk-weaker}
use Rattle.dl_terms.specs.Below.{ConceptBelow}
use Rattle.dl_terms.specs.declared.role.Basic.TheVariants.{Class}
use Rattle.dl_terms.specs.declared.axiom.Axiom.{Axiom}
use Rattle.dl_reach.specs.Chain.{Chain}
use Rattle.dl_reach.specs.Digraph.{IsEdge}
use Rattle.dl_hier.specs.Hierarchy.{IsHierarchyOf}
use Rattle.dl_hier.proofs.QueryLemmas.{then}
use Rattle.dl_hier.proofs.HierLemmas.{class_chains}
use Rattle.dl_hier.proofs.hier.Hier.class_order.Goals as goal

pub returns-clause-below : goal.returns-clause-below
returns-clause-below c =
    let w = c.self.inside in
    let same : length c.args.self.now.predicates.classes ≡ length w.nodes.classes = ap (λ h. length h.predicates.classes) (sym c.self.view_is) in
    let count = c.class_count.ensures in
    IfOk-weaker c.among.result
    (λ order. (i j : ℕ) → i < c.class_count.result → j < c.class_count.result → Chain (IsEdge order) i j
    ↔ Chain (IsEdge w.basic_ways.graph) (0 + i * 1) (0 + j * 1))
    (λ order. (axioms : List Axiom) → IsHierarchyOf c.args.self.now axioms
    → (i j : ℕ) → i < length c.args.self.now.predicates.classes → j < length c.args.self.now.predicates.classes → Chain (IsEdge order) i j
    ↔ ConceptBelow axioms (Class (slice_index_or c.args.self.now.predicates.classes i 0)) (Class (slice_index_or c.args.self.now.predicates.classes j 0)))
    (λ order chains axioms of i j i_in j_in.
    then (chains i j (omega (arith, i_in, same, count)) (omega (arith, j_in, same, count)))
    (class_chains w.nodes w.roles w.role_ways.graph w.basic_ways.graph c.self.invariant.graphs c.args.self.now c.self.view_is axioms of i j
    (omega (arith, i_in, same)) (omega (arith, j_in, same))))
    c.among.ensures.chains
