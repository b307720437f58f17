use Rattle.dl_answer.proofs.KeptLemmas.{same_told, less_told, greater_told}
use Rattle.dl_answer.proofs.kept.are_same.Goals as goal

pub returns-in-Less : goal.returns-in-Less
returns-in-Less c = less_told c.args.ones.now c.args.others.now c.cmp.result c.cmp.ensures c.in-Less.is

pub returns-in-Equal : goal.returns-in-Equal
returns-in-Equal c = same_told c.args.ones.now c.args.others.now c.cmp.result c.cmp.ensures c.in-Equal.is

pub returns-in-Greater : goal.returns-in-Greater
returns-in-Greater c = greater_told c.args.ones.now c.args.others.now c.cmp.result c.cmp.ensures c.in-Greater.is
