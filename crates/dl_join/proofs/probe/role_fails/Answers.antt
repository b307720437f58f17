use Rattle.dl_join.proofs.ProbeLemmas.{joined_fails, joined_holds, not_true, not_false}
use Rattle.dl_join.proofs.probe.role_fails.Goals as goal

pub returns-in-Name-to-clause-fails : goal.returns-in-Name-to-clause-fails
returns-in-Name-to-clause-fails c = λ missed names role.
    rw (c.in-Name.is, c.in-Name-to.is) (joined_fails c.args.pairs.now c.run_of.result.now c.in-Name.a c.run_of.ensures.members c.in-Name-to.b
    (c.has_second.ensures.missed (not_true c.has_second.result missed)))

pub returns-in-Name-to-clause-holds : goal.returns-in-Name-to-clause-holds
returns-in-Name-to-clause-holds c = λ found names role closed.
    rw (c.in-Name.is, c.in-Name-to.is) (joined_holds c.args.pairs.now c.run_of.result.now c.in-Name.a c.run_of.ensures.members c.in-Name-to.b
    (c.has_second.ensures.found (not_false c.has_second.result found)))
