use Rattle.dl_numbers.specs.Numbers.{IsBelow}
use Rattle.dl_numbers.proofs.UnderLemmas.{depth_first_one}
use Rattle.dl_numbers.proofs.laws.numbers_are_one.Goals as goal

pub returns : goal.returns
returns c = depth_first_one c.args.names.now (IsBelow c.args.names.now c.args.order.now)
