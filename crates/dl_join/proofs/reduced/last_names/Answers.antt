use Rattle.dl_join.proofs.NarrowLemmas.{no_need}
use Rattle.dl_join.proofs.DirectLemmas.{last_names}
use Rattle.dl_join.proofs.reduced.last_names.Goals as goal

pub returns : goal.returns
returns c = last_names c.args.var c.args.needs.now no_need c.in_ok-list.list c.requires.last c.requires.needs c.in_ok-list.ensures
