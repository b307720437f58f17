use Rattle.std.proofs.Common.{arith}
use Rattle.dl_intervals.proofs.Search.{length_small}
use Rattle.dl_intervals.proofs.intervals.Intervals.len.Goals as goal

pub overflow_cast-result : goal.overflow_cast-result
overflow_cast-result c =
    let small = length_small c.self.inside.items.items c.self.invariant.0 c.self.invariant.1 in
    grind (arith, small)
