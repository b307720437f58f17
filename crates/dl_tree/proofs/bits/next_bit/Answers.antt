use Rattle.std.proofs.Common.{sym, ◌∙◌, arith}
use Rattle.dl_tree.proofs.FoldLemmas.{not_both}
use Rattle.dl_tree.proofs.BitLemmas.{none_to}
use Rattle.dl_tree.proofs.bits.next_bit.Goals as goal

pub loop-i-preserved : goal.loop-i-preserved
loop-i-preserved c = record {
  le = let b = c.behind-i.ensures.later in let l = c.loop-i.invariant.le in omega (arith, b, l);
  none = none_to c.args.row.now c.args.from c.loop-i.i c.behind-i.result c.loop-i.invariant.none
      (λ h. not_both h (sym c.has_bit.ensures ∙ c.if-has_bit.false)) c.behind-i.ensures.none;
}

pub returns-then-has_bit : goal.returns-then-has_bit
returns-then-has_bit c = (
  c.loop-i.invariant.le,
  c.loop-i-test.true,
  sym c.has_bit.ensures ∙ c.if-has_bit.true,
  c.loop-i.invariant.none,
)

pub returns : goal.returns
returns c = λ k l m h. c.loop-i.invariant.none k l (let t = c.loop-i-test.false in omega (arith, m, t)) h
