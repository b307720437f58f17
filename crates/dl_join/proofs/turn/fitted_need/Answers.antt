use Rattle.std.proofs.Common.{refl}
use Rattle.dl_join.proofs.OrderLemmas.{fitted_itself, fitted_turned}
use Rattle.dl_join.proofs.turn.fitted_need.Goals as goal

pub returns-in-Some : goal.returns-in-Some
returns-in-Some c =
    fitted_turned c.args.order.now c.args.need.now _ c.in-Some.other c.requires.need c.requires.order c.in-Some.ensures.some refl refl refl (c.requires.turned c.in-Some.other c.in-Some.ensures.some)

pub returns-in-None : goal.returns-in-None
returns-in-None c = rw c.again.ensures (fitted_itself c.args.order.now c.args.need.now c.requires.need c.requires.order c.in-None.ensures.none)
