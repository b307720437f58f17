use Rattle.std.proofs.Common.{◌≡◌, length, ap, ◌∙◌, arith}
use Rattle.dl_hier.specs.Predicates.{Predicates}
use Rattle.dl_hier.proofs.PredicateLemmas.{length-roles}
use Rattle.dl_hier.proofs.nodes.Nodes.role_count.Goals as goal

pub returns : goal.returns
returns c =
    let p = c.args.self.now in
    let properties : c.len.result ≡ length p.properties = c.len.ensures ∙ ap (λ (q : Predicates). length q.properties) c.self.view_is in
    let auxiliaries : c.len-2.result ≡ length p.auxiliaries = c.len-2.ensures ∙ ap (λ (q : Predicates). length q.auxiliaries) c.self.view_is in
    omega (arith, length-roles p, properties, auxiliaries)
