use Rattle.std.proofs.Common.{refl}
use Rattle.dl_join.proofs.ProbeLemmas.{run_need}
use Rattle.dl_join.proofs.probe.role_need.Goals as goal

pub role_need_from-requires-clause-kept : goal.role_need_from-requires-clause-kept
role_need_from-requires-clause-kept c = λ role. rw c.in-Var.is at c.requires.kept role

pub returns-in-Var-clause-some : goal.returns-in-Var-clause-some
returns-in-Var-clause-some c = λ role. rw c.in-Var.is (c.role_need_from.ensures role)

pub returns-in-Var-to-clause-some : goal.returns-in-Var-to-clause-some
returns-in-Var-to-clause-some c = λ role.
    rw (c.in-Name.is, c.in-Var-to.is) (run_need role c.in-Name.a c.in-Var-to.w c.args.pairs.now c.run_of.result.now _ refl refl refl refl c.run_of.ensures.members c.run_of.ensures.ascending)
