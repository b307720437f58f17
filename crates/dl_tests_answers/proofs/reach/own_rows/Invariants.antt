use Rattle.std.proofs.Common.{◌≡◌, vec_len}
use Rattle.dl_tests_answers.proofs.reach.own_rows.Given as goal

abbrev pub invariant-loop-node : goal.invariant-loop-node
invariant-loop-node l = vec_len l.rows ≡ l.node
