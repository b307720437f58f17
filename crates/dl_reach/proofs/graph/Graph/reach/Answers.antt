use Rattle.std.proofs.Common.{◌≡◌, ap, ◌∙◌}
use Rattle.dl_reach.specs.Digraph.{Digraph}
use Rattle.dl_reach.proofs.graph.Graph.reach.Goals as goal

pub returns-clause-exact : goal.returns-clause-exact
returns-clause-exact c =
    let edges : c.deref.result.now ≡ c.args.self.now.edges = c.deref.ensures.value ∙ ap (λ (g : Digraph). g.edges) c.self.view_is in
    let chains = rw edges at c.in_ok-seen.ensures.exact in
    let listed = rw c.deref-2.ensures.value at c.in_ok-marked_nodes.ensures.exact in
    λ node. (λ w. (chains node).0 ((listed node).0 w), λ h. (listed node).1 ((chains node).1 h))
