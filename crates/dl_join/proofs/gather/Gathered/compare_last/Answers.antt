use Rattle.std.proofs.Common.{arith}
use Rattle.dl_join.proofs.GatherLemmas.{compares_last}
use Rattle.dl_join.proofs.gather.Gathered.compare_last.Goals as goal

pub returns-clause-order : goal.returns-clause-order
returns-clause-order c =
    let known = c.args.self.now.known.tuples in
    compares_last c.cmp.result known c.args.tuple.now c.copy_tuple.new.copy.items c.requires.ascending (grind arith) (rw c.len-known.ensures at c.in_ok-copy_tuple.ensures.copied) (rw c.as_slice.ensures.value at c.cmp.ensures)
