use Rattle.std.proofs.Common.{◌≤◌, subst, arith}
use Rattle.dl_reach.specs.Digraph.{max_nodes}
use Rattle.dl_reach.proofs.closure.Closure.of.Goals as goal

pub invariant_of-result : goal.invariant_of-result
invariant_of-result c =
    let chains = rw c.edges.ensures.edges at (rw c.nodes-2.ensures.count at c.in_ok-words.ensures.chains) in
    record {
      few = subst (λ n. n ≤ max_nodes) c.nodes.ensures.count c.nodes.ensures.few;
      wide = omega (arith, c.nodes.ensures.count, c.div_ceil-width.ensures);
      len = rw c.nodes-2.ensures.count at c.in_ok-words.ensures.len;
      chains = chains;
    }
