use Rattle.std.proofs.Common.{◌≤◌, List as Items, length, vec_len}
use Rattle.dl_terms.specs.declared.axiom.Axiom.{Axiom}
use Rattle.dl_terms.specs.declared.axiom.Fact.{Fact}
use Rattle.dl_join.specs.Disjuncts.{AreSorted}
use Rattle.dl_answer.specs.Kept.{AreKept, AreFirst}
use Rattle.dl_answer.proofs.kept.keep_all.Given as goal

abbrev pub invariant-loop-pairs : goal.invariant-loop-pairs
invariant-loop-pairs l = record {
  few : length l.rest.items ≤ length l.probes;
  sorted : AreSorted l.rest.items;
  kept : (axioms : Items Axiom) (facts : Items Fact) → AreKept axioms facts l.initial.kept
      → AreFirst axioms facts l.probes l.initial.rest.items → AreKept axioms facts l.kept;
  left : (axioms : Items Axiom) (facts : Items Fact) → AreFirst axioms facts l.probes l.initial.rest.items
      → AreFirst axioms facts l.probes l.rest.items;
}

abbrev pub decreases-loop-pairs : goal.decreases-loop-pairs
decreases-loop-pairs l = vec_len l.rest
