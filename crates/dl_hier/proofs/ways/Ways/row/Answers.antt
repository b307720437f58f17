use Rattle.std.proofs.Common.{◌≡◌, ℕ, ◌<◌, ◌↔◌, true, sym, ap, subst, arith}
use Rattle.dl_reach.specs.Chain.{Chain}
use Rattle.dl_reach.specs.Digraph.{IsEdge, Leads}
use Rattle.dl_reach.specs.Rows.{row_has}
use Rattle.dl_hier.specs.Ways.{node_at}
use Rattle.dl_hier.proofs.QueryLemmas.{then}
use Rattle.dl_hier.proofs.WayLemmas.{row_chains}
use Rattle.dl_hier.proofs.ways.Ways.row.Goals as goal

pub returns : goal.returns
returns c =
    let w = c.self.inside in
    let edges = w.closure.edges in
    let n : c.args.self.now.graph.nodes ≡ w.closure.nodes = ap (λ v. v.graph.nodes) (sym c.self.view_is) in
    let count = c.self.invariant.nodes in
    let to_in = c.requires in
    subst (λ v. (i : ℕ) → i < v.graph.nodes → (row_has c.row.result.now i ≡ true)
    ↔ Chain (IsEdge v.graph) (node_at v.first v.rest i) c.args.to) c.self.view_is (λ i within.
    then (subst (λ x. (row_has c.row.result.now i ≡ true) ↔ Chain (Leads edges) x i) c.place.ensures (c.row.ensures i within))
    (row_chains w.first w.rest c.self.invariant.even edges c.self.invariant.ends i c.args.to (omega (arith, within, count))
    (omega (arith, to_in, n, count))))
