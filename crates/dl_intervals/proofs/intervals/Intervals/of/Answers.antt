use Rattle.std.proofs.Common.{refl}
use Rattle.dl_intervals.proofs.Laws.{fewest}
use Rattle.dl_intervals.proofs.Growth.{Collects-more, Collects-all}
use Rattle.dl_intervals.proofs.intervals.Intervals.of.Goals as goal

pub loop-number-preserved : goal.loop-number-preserved
loop-number-preserved c =
    Collects-more c.args.numbers.now c.loop-number.number-index _ c.loop-number.items.items c.add.new.items.items c.requires.ascending c.loop-number-test.true refl c.loop-number.invariant c.in_ok-add.ensures

pub returns-clause-numbers : goal.returns-clause-numbers
returns-clause-numbers c = Collects-all c.args.numbers.now c.loop-number.number-index c.loop-number.items.items c.loop-number-test.false c.loop-number.invariant

pub returns-clause-fewest : goal.returns-clause-fewest
returns-clause-fewest c = fewest c.loop-number.items.items c.loop-number.invariant.sorted
