use Rattle.dl_rewrite.proofs.DisjunctLemmas.{answer_of, names_of}
use Rattle.dl_rewrite.proofs.laws.disjuncts_have_answers.Goals as goal

pub returns : goal.returns
returns c = λ axioms facts roles q s parts pairs to are to_unify unifies d is tuple. (
  answer_of axioms facts roles q s parts pairs to are to_unify unifies d is tuple,
  names_of axioms facts roles q s parts pairs to are to_unify unifies d is tuple,
)
