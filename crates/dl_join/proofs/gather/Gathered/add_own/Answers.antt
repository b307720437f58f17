use Rattle.dl_join.proofs.gather.Gathered.add_own.Goals as goal

pub returns-clause-ok : goal.returns-clause-ok
returns-clause-ok c = rw c.as_slice.ensures.value at c.add_tuple.ensures.ok

pub returns-clause-many : goal.returns-clause-many
returns-clause-many c = λ e. rw c.as_slice.ensures.value at (c.add_tuple.ensures.many e)
