use Rattle.std.proofs.Common.{◌∙◌}
use Rattle.dl_join.proofs.ProbeLemmas.{with_name_need, twice_need}
use Rattle.dl_join.proofs.probe.role_need_from.Goals as goal

pub returns-in-Name : goal.returns-in-Name
returns-in-Name c = λ role.
    let need = c.first_need.ensures in
    rw c.in-Name.is (with_name_need c.args.v c.first_need.result need.at need.column role c.in-Name.field-0 c.args.pairs.now need.other
    (need.pairs ∙ (rw c.in-Name.is at c.requires.kept role)) c.requires.ascending)

pub returns-then-v-w : goal.returns-then-v-w
returns-then-v-w c = λ role.
    let need = c.first_need-then-v-w.ensures in
    rw c.in-Var.is (twice_need c.args.v c.first_need-then-v-w.result need.at need.column role c.in-Var.w c.args.pairs.now c.if-v-w.true need.other
    (need.pairs ∙ (rw c.in-Var.is at c.requires.kept role)) c.requires.ascending)
