use Rattle.std.proofs.Common.{bit_and, arith}
use Rattle.dl_tree.proofs.BitLemmas.{Worked-none, Worked-next, met}
use Rattle.dl_tree.proofs.bits.meet.Goals as goal

pub loop-i-init : goal.loop-i-init
loop-i-init c = Worked-none bit_and c.args.row.now.items c.args.other.now

pub loop-i-preserved : goal.loop-i-preserved
loop-i-preserved c =
    Worked-next bit_and c.loop-i.i c.args.row.now.items c.args.other.now c.loop-i.row.items c.index_mut.result.now c.word_at.result
    c.loop-i.invariant (omega (arith, c.loop-i-test.true, c.len-i-end.ensures, c.loop-i.invariant.len)) c.index_mut.ensures.value c.word_at.ensures

pub returns-clause-bits : goal.returns-clause-bits
returns-clause-bits c = met c.loop-i.i c.args.row.now.items c.args.other.now c.loop-i.row.items c.loop-i.invariant (omega (arith, c.loop-i-test.false, c.len-i-end.ensures))
