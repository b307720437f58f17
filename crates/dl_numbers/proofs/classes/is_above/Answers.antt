use Rattle.dl_numbers.proofs.PlaceLemmas.{test_above}
use Rattle.dl_numbers.proofs.classes.is_above.Goals as goal

pub returns-then-has : goal.returns-then-has
returns-then-has c = test_above c.args.order.now c.args.leaders.now c.requires.leaders c.args.above c.args.place c.requires.above c.requires.place (c.has.ensures.0 c.if-has.true)
