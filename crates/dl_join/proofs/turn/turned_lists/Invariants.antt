use Rattle.std.proofs.Common.{take}
use Rattle.dl_join.specs.Probing.{AreTurnedLists}
use Rattle.dl_join.proofs.turn.turned_lists.Given as goal

abbrev pub invariant-loop-need : goal.invariant-loop-need
invariant-loop-need l = AreTurnedLists l.order (take l.need-index l.needs) l.lists.items
