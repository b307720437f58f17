use Rattle.dl_reach.specs.Digraph.{EndsBelow}
use Rattle.bench_axioms.proofs.reach.push_parents.Given as goal

abbrev pub invariant-loop-node : goal.invariant-loop-node
invariant-loop-node l = EndsBelow l.nodes l.edges.items
