use Rattle.dl_join.proofs.GatherLemmas.{exactly_known}
use Rattle.dl_join.proofs.gather.Gathered.finish.Goals as goal

pub returns-clause-tuples : goal.returns-clause-tuples
returns-clause-tuples c = exactly_known c.args.self c.settle.new.self c.in_ok-settle.ensures.ok c.in_ok-settle.ensures.fresh
