use Rattle.std.proofs.Common.{sym, arith}
use Rattle.dl_join.proofs.MergeLemmas.{next_by, width_by}
use Rattle.dl_join.proofs.merged.next.Goals as goal

pub returns-clause-next : goal.returns-clause-next
returns-clause-next c =
    next_by c.cmp.result c.args.one.now.tuples c.args.two.now.tuples c.args.i c.args.j c.copy_tuple-2.new.copy.items c.copy_tuple-3.new.copy.items
    (rw (c.as_slice.ensures.value, c.as_slice-2.ensures.value) at c.cmp.ensures)
    (record { inside = grind arith; is = sym c.in_ok-copy_tuple-2.ensures.copied }) (record { inside = grind arith; is = sym c.in_ok-copy_tuple-3.ensures.copied })

pub returns-clause-width : goal.returns-clause-width
returns-clause-width c =
    width_by c.cmp.result c.args.one.now.width c.args.two.now.width c.copy_tuple-2.new.copy.items c.copy_tuple-3.new.copy.items c.in_ok-copy_tuple-2.ensures.width c.in_ok-copy_tuple-3.ensures.width
