use Rattle.dl_join.proofs.ProbeLemmas.{any_of_need}
use Rattle.dl_join.proofs.probe.class_need.Goals as goal

pub returns-in-Var-clause-some : goal.returns-in-Var-clause-some
returns-in-Var-clause-some c = λ basics.
    let need = c.first_need.ensures in
    rw c.in-Var.is (any_of_need c.in-Var.v c.first_need.result need.at need.column basics c.args.pairs.now need.other need.pairs c.requires)
