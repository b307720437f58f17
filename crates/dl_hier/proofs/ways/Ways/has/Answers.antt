use Rattle.std.proofs.Common.{◌≡◌, ◌↔◌, IsTrue, sym, ap, subst, arith}
use Rattle.dl_reach.specs.Chain.{Chain}
use Rattle.dl_reach.specs.Digraph.{IsEdge, Leads}
use Rattle.dl_hier.specs.Ways.{place}
use Rattle.dl_hier.proofs.QueryLemmas.{then}
use Rattle.dl_hier.proofs.WayLemmas.{kept_chains}
use Rattle.dl_hier.proofs.ways.Ways.has.Goals as goal

pub returns : goal.returns
returns c =
    let w = c.self.inside in
    let edges = w.closure.edges in
    let n : c.args.self.now.graph.nodes ≡ w.closure.nodes = ap (λ v. v.graph.nodes) (sym c.self.view_is) in
    let count = c.self.invariant.nodes in
    subst (λ v. IsTrue c.has.result ↔ Chain (IsEdge v.graph) c.args.from c.args.to) c.self.view_is
    (then (subst (λ x. IsTrue c.has.result ↔ Chain (Leads edges) x (place w.first w.rest c.args.from)) c.place-to.ensures
    (subst (λ x. IsTrue c.has.result ↔ Chain (Leads edges) c.place-to.result x) c.place-from.ensures c.has.ensures))
    (kept_chains w.first w.rest c.self.invariant.even edges c.self.invariant.ends c.args.from c.args.to
    (let h = c.requires.from in omega (arith, h, n, count)) (let h = c.requires.to in omega (arith, h, n, count))))
