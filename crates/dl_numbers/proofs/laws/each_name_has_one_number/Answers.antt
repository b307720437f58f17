use Rattle.dl_numbers.proofs.LawLemmas.{numbered_each}
use Rattle.dl_numbers.proofs.laws.each_name_has_one_number.Goals as goal

pub returns : goal.returns
returns c = numbered_each c.args.names.now c.requires.ascending c.args.order.now
