use Rattle.std.proofs.Common.{◌≡◌, length}
use Rattle.dl_join.specs.Disjuncts.{AreSorted}
use Rattle.dl_tests_answers.proofs.plain_join.add_probes.Given as goal

abbrev pub invariant-loop : goal.invariant-loop
invariant-loop l = record { count : length l.lists.items ≡ length l.probes; sorted : AreSorted l.lists.items }
