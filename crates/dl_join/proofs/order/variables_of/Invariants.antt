use Rattle.std.proofs.Common.{take}
use Rattle.dl_join.specs.Probing.{OrdersAll}
use Rattle.dl_join.proofs.order.variables_of.Given as goal

abbrev pub invariant-loop-need : goal.invariant-loop-need
invariant-loop-need l = OrdersAll l.vars.items (take l.need-index l.needs)
