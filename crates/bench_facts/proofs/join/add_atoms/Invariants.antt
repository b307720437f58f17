use Rattle.std.proofs.Common.{◌≡◌, length}
use Rattle.dl_join.specs.Disjuncts.{AreSorted}
use Rattle.bench_facts.proofs.join.add_atoms.Given as goal

abbrev pub invariant-loop-atom : goal.invariant-loop-atom
invariant-loop-atom l = record { count : length l.lists.items ≡ length l.probes; sorted : AreSorted l.lists.items }
