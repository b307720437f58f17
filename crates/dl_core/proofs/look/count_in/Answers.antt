use Rattle.std.proofs.Common.{ℕ, cond, sym, ap, ◌∙◌, arith}
use Rattle.dl_row.specs.Rows.{visible}
use Rattle.dl_core.proofs.LookLemmas.{count-more}
use Rattle.dl_core.proofs.look.count_in.Goals as goal
use Rattle.dl_core.proofs.look.count_in.Goals.{then-visible, else-visible}

pub loop-i-preserved : goal.loop-i-preserved
loop-i-preserved c =
    let more = count-more (visible c.args.version) c.args.shard.now c.loop-i.i c.row.result c.row.ensures in
    let are = c.loop-i.invariant.are in
    let few = c.loop-i.invariant.few in
    elim c.if-visible.branch [
      | then-visible w ↦
          (let one = ap {B = ℕ} (λ b. cond b 1 0) (sym c.visible.ensures ∙ w.if-visible.true) in
          let is = w.visible-is in
          record { are = omega (arith, more, are, one, is); few = omega (arith, few, is) })
      | else-visible w ↦
          (let none = ap {B = ℕ} (λ b. cond b 1 0) (sym c.visible.ensures ∙ w.if-visible.false) in
          let is = w.visible-is in
          record { are = omega (arith, more, are, none, is); few = omega (arith, few, is) })
    ]
