use Rattle.dl_join.proofs.probe.fails.Goals as goal

pub returns-in-AnyOf-clause-fails : goal.returns-in-AnyOf-clause-fails
returns-in-AnyOf-clause-fails c = λ e names. rw c.in-AnyOf.is (c.class_fails.ensures.fails e names c.in-AnyOf.basics)

pub returns-in-Joined-clause-fails : goal.returns-in-Joined-clause-fails
returns-in-Joined-clause-fails c = λ e names. rw c.in-Joined.is (c.role_fails.ensures.fails e names c.in-Joined.role)
