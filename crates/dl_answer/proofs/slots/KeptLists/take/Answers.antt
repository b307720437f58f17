use Rattle.dl_answer.proofs.slots.KeptLists.take.Goals as goal

pub returns-in-Some-clause-list : goal.returns-in-Some-clause-list
returns-in-Some-clause-list c = λ axioms facts all. c.pairs_for.ensures.list axioms facts (c.in-Some.ensures.one axioms facts all)
