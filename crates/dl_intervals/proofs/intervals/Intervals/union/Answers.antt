use Rattle.dl_intervals.proofs.Laws.{fewest}
use Rattle.dl_intervals.proofs.Growth.{Merges-all}
use Rattle.dl_intervals.proofs.intervals.Intervals.union.Goals as goal

pub returns-clause-numbers : goal.returns-clause-numbers
returns-clause-numbers c = rw (← c.self.view_is, ← c.other.view_is, ← c.deref.ensures.value, ← c.deref-2.ensures.value) (Merges-all c.deref.result.now c.deref-2.result.now c.in_ok-items.items.items c.in_ok-items.ensures)

pub returns-clause-fewest : goal.returns-clause-fewest
returns-clause-fewest c = (let merged = c.in_ok-items.ensures in fewest c.in_ok-items.items.items merged.sorted)
