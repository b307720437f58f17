use Rattle.dl_join.proofs.gather.Gathered.add_copy.Goals as goal

pub returns-clause-ok : goal.returns-clause-ok
returns-clause-ok c = rw c.in_ok-copy.ensures at c.add_fresh.ensures.ok

pub returns-clause-many : goal.returns-clause-many
returns-clause-many c = λ e. rw c.in_ok-copy.ensures at (c.add_fresh.ensures.many e)
