use Rattle.dl_numbers.proofs.LawLemmas.{below_one}
use Rattle.dl_numbers.proofs.laws.what_is_below_is_one_interval.Goals as goal

pub returns : goal.returns
returns c = below_one c.args.names.now c.requires.ascending c.args.order.now c.requires.forest
