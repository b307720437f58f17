use Rattle.std.proofs.Common.{◌≡◌, ap, sym, ◌∙◌, arith}
use Rattle.dl_tree.proofs.TopLemmas.{TopsTo-none, TopsTo-push, TopsTo-pass, TopsTo-all}
use Rattle.dl_tree.proofs.atoms.tops.Goals.{then-may_split+in_ok-push, else-may_split}
use Rattle.dl_tree.proofs.atoms.tops.Goals as goal

pub loop-less-init : goal.loop-less-init
loop-less-init c = TopsTo-none c.args.links.now c.args.s c.new-tops.result.items c.new-tops.ensures.items

pub loop-less-preserved : goal.loop-less-preserved
loop-less-preserved c = elim c.if-may_split.branch [
  | then-may_split+in_ok-push w ↦
      TopsTo-push c.args.links.now c.args.s c.loop-less.less c.loop-less.tops.items c.if-may_split.tops.items c.loop-less.invariant
      (ap (λ l. l.items) w.tops-is ∙ w.in_ok-push.ensures.items)
  | else-may_split w ↦
      TopsTo-pass c.args.links.now c.args.s c.loop-less.less c.loop-less.tops.items c.if-may_split.tops.items c.loop-less.invariant
      (sym c.may_split.ensures ∙ w.if-may_split.false) (ap (λ l. l.items) w.tops-is)
]

pub returns : goal.returns
returns c =
    let all : c.loop-less.less ≡ c.args.s = omega (arith, c.loop-less-test.false, c.loop-less.auto.less-end) in
    TopsTo-all c.args.links.now c.args.s c.loop-less.less c.loop-less.tops.items all c.loop-less.invariant
