use Rattle.dl_numbers.proofs.LawLemmas.{numbers_exist}
use Rattle.dl_numbers.proofs.laws.numbers_exist.Goals as goal

pub returns : goal.returns
returns c = numbers_exist c.args.names.now c.requires.ascending c.args.order.now
