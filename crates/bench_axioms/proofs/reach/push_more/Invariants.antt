use Rattle.dl_reach.specs.Digraph.{EndsBelow}
use Rattle.bench_axioms.proofs.reach.push_more.Given as goal

abbrev pub invariant-loop-i : goal.invariant-loop-i
invariant-loop-i l = EndsBelow l.nodes l.edges.items
