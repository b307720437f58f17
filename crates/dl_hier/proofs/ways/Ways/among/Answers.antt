use Rattle.std.proofs.Common.{◌≡◌, ℕ, ◌+◌, ◌*◌, ◌<◌, ◌↔◌, length, get_or, sym, ap, subst, ◌∙◌, arith}
use Rattle.dl_reach.specs.Chain.{Chain}
use Rattle.dl_reach.specs.Digraph.{IsEdge, Leads}
use Rattle.dl_hier.specs.Ways.{place}
use Rattle.dl_hier.proofs.QueryLemmas.{then}
use Rattle.dl_hier.proofs.WayLemmas.{kept_chains}
use Rattle.dl_hier.proofs.ways.Ways.among.Goals as goal

pub returns-in-Ok-clause-chains : goal.returns-in-Ok-clause-chains
returns-in-Ok-clause-chains c = λ i j i_in j_in.
    let w = c.self.inside in
    let edges = w.closure.edges in
    let a : ℕ = c.args.first + i * c.args.every in
    let b : ℕ = c.args.first + j * c.args.every in
    let n : c.args.self.now.graph.nodes ≡ w.closure.nodes = ap (λ v. v.graph.nodes) (sym c.self.view_is) in
    let count = c.self.invariant.nodes in
    let long : length c.deref.result.now ≡ c.args.count = ap length c.deref.ensures.value ∙ c.in_ok-places.ensures.count in
    let at : (k : ℕ) → k < c.args.count → get_or c.deref.result.now k 0 ≡ place w.first w.rest (c.args.first + k * c.args.every) = λ k within.
    ap (λ xs. get_or xs k 0) c.deref.ensures.value ∙ c.in_ok-places.ensures.each k within
    ∙ ap (λ v. place v.first v.rest (c.args.first + k * c.args.every)) (sym c.self.view_is) in
    let node : (k : ℕ) → k < c.args.count → c.args.first + k * c.args.every < w.first + w.rest = λ k within.
    let h = c.requires.nodes k within in omega (arith, h, n, count) in
    subst (λ v. Chain (IsEdge c.in-Ok.order) i j ↔ Chain (IsEdge v.graph) a b) c.self.view_is
    (then (subst (λ x. Chain (IsEdge c.in-Ok.order) i j ↔ Chain (Leads edges) x (place w.first w.rest a)) (at j j_in)
    (subst (λ x. Chain (IsEdge c.in-Ok.order) i j ↔ Chain (Leads edges) (get_or c.deref.result.now j 0) x) (at i i_in)
    (c.in-Ok.ensures.chains i j (omega (arith, i_in, long)) (omega (arith, j_in, long)))))
    (kept_chains w.first w.rest c.self.invariant.even edges c.self.invariant.ends a b (node i i_in) (node j j_in)))
