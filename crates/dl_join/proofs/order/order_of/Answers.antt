use Rattle.std.proofs.Common.{◌≡◌, length, arith}
use Rattle.std.proofs.lemmas.Bool.Decides.{nat_tests}
use Rattle.dl_join.proofs.OrderLemmas.{waited_more, orders_all}
use Rattle.dl_join.proofs.order.order_of.Goals as goal

pub loop-order-preserved : goal.loop-order-preserved
loop-order-preserved c =
    rw c.swap_remove-var.ensures.items (waited_more c.in_ok-waiting.waiting.items c.loop-order.order.items c.add.new.order.items c.loop-order.waiting.items c.place_of_next-place.result c.swap_remove-var.result
    c.loop-order.invariant (grind arith) c.swap_remove-var.ensures.value c.in_ok-add.ensures.there c.in_ok-add.ensures.kept)

pub returns : goal.returns
returns c =
    let none : length c.loop-order.waiting.items ≡ 0 = grind (arith, nat_tests, c.loop-order.waiting.ok.0) in
    orders_all c.in_ok-waiting.waiting.items c.loop-order.order.items c.loop-order.waiting.items c.args.needs.now c.in_ok-waiting.ensures c.loop-order.invariant none
