use Rattle.std.proofs.Common.{◌≤◌, bit_or, length, min, subst, ap, ◌∙◌}
use Rattle.dl_tree.proofs.BitLemmas.{Worked-none, Worked-next, joined, in_shorter}
use Rattle.dl_tree.proofs.bits.join.Goals as goal

pub loop-i-init : goal.loop-i-init
loop-i-init c = Worked-none bit_or c.args.row.now.items c.args.other.now

pub loop-i-preserved : goal.loop-i-preserved
loop-i-preserved c =
    let end = c.min-i-end.ensures ∙ ap (λ n. min n (length c.args.other.now)) (c.len.ensures ∙ c.args.row.now.ok.0) in
    Worked-next bit_or c.loop-i.i c.args.row.now.items c.args.other.now c.loop-i.row.items c.index_mut.result.now c.word_at.result
    c.loop-i.invariant
    (in_shorter c.loop-i.i c.min-i-end.result c.args.row.now.items c.args.other.now c.loop-i.row.items c.loop-i-test.true end c.loop-i.invariant.len)
    c.index_mut.ensures.value c.word_at.ensures

pub returns-clause-bits : goal.returns-clause-bits
returns-clause-bits c =
    let end = c.min-i-end.ensures ∙ ap (λ n. min n (length c.args.other.now)) (c.len.ensures ∙ c.args.row.now.ok.0) in
    joined c.loop-i.i c.args.row.now.items c.args.other.now c.loop-i.row.items c.loop-i.invariant
    (subst (λ n. n ≤ c.loop-i.i) end c.loop-i-test.false)
