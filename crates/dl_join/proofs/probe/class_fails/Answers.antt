use Rattle.std.proofs.Common.{◌≡◌, ◌<◌, length, arith}
use Rattle.std.proofs.lemmas.Bool.Decides.{nat_tests}
use Rattle.dl_join.proofs.ProbeLemmas.{any_fails, any_holds}
use Rattle.dl_join.proofs.probe.class_fails.Goals as goal

pub returns-in-Name-clause-fails : goal.returns-in-Name-clause-fails
returns-in-Name-clause-fails c = λ empty names basics.
    let none : length c.run_of.result.now ≡ 0 = grind (arith, nat_tests, c.is_empty.ensures) in
    rw c.in-Name.is (any_fails c.args.pairs.now c.run_of.result.now c.in-Name.a c.run_of.ensures.members none)

pub returns-in-Name-clause-holds : goal.returns-in-Name-clause-holds
returns-in-Name-clause-holds c = λ full names basics closed.
    let some : 0 < length c.run_of.result.now = grind (arith, nat_tests, c.is_empty.ensures) in
    rw c.in-Name.is (any_holds c.args.pairs.now c.run_of.result.now c.in-Name.a c.run_of.ensures.members some)
