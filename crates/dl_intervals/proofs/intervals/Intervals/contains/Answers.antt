use Rattle.std.proofs.Common.{ltb, arith, rules}
use Rattle.std.proofs.lemmas.List.Sorted.{IsPartitionPoint-from_clause, IsPartitionedBy-ltb}
use Rattle.std.proofs.lemmas.Bool.Decides.{nat_tests}
use Rattle.dl_intervals.specs.Intervals.{Interval}
use Rattle.dl_intervals.proofs.Search.{held_at_point, not_held_past, ends_rise}
use Rattle.dl_intervals.proofs.intervals.Intervals.contains.Goals as goal

pub returns-then-at-len : goal.returns-then-at-len
returns-then-at-len c =
    let xs = c.self.inside.items.items in
    let sorted = c.self.invariant.0 in
    let point = IsPartitionPoint-from_clause (λ (i : Interval). ltb i.1 c.args.n) xs c.partition_point-at.result (rw c.deref.ensures.value at c.partition_point-at.ensures.partitioned) (IsPartitionedBy-ltb (λ i. i.1) xs c.args.n (ends_rise xs sorted)) (λ a r q k. search rules) in
    let meaning = held_at_point xs c.partition_point-at.result c.args.n c.index.result.now sorted point (grind arith) c.index.ensures in
    rw (← c.self.view_is) (grind (arith, nat_tests, meaning))

pub returns-else-at-len : goal.returns-else-at-len
returns-else-at-len c =
    let xs = c.self.inside.items.items in
    let sorted = c.self.invariant.0 in
    let point = IsPartitionPoint-from_clause (λ (i : Interval). ltb i.1 c.args.n) xs c.partition_point-at.result (rw c.deref.ensures.value at c.partition_point-at.ensures.partitioned) (IsPartitionedBy-ltb (λ i. i.1) xs c.args.n (ends_rise xs sorted)) (λ a r q k. search rules) in
    let never = not_held_past xs c.partition_point-at.result c.args.n sorted point (grind arith) in
    rw (← c.self.view_is) (grind (arith, nat_tests, never))
