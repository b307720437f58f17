use Rattle.dl_numbers.specs.Numbers.{IsBelow}
use Rattle.dl_numbers.proofs.RuleLemmas.{depth_first_agree, depth_first_members}
use Rattle.dl_numbers.proofs.laws.numbers_go_by_the_names_alone.Goals as goal

pub returns-clause-agree : goal.returns-clause-agree
returns-clause-agree c = depth_first_agree c.args.names.now (IsBelow c.args.names.now c.args.order.now) (IsBelow c.args.names.now c.args.other.now)

pub returns-clause-members : goal.returns-clause-members
returns-clause-members c = depth_first_members c.args.names.now c.args.others.now (IsBelow c.args.names.now c.args.order.now)
