use Rattle.dl_answer.proofs.certain.union.Goals as goal

pub returns-clause-tuples : goal.returns-clause-tuples
returns-clause-tuples c = c.merge.ensures.tuples

pub returns-clause-many : goal.returns-clause-many
returns-clause-many c = c.merge.ensures.many
