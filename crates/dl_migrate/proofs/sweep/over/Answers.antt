use Rattle.std.proofs.Common.{cond, ℕ, ap, arith}
use Rattle.std.proofs.lemmas.Bool.{le-leb, lt-leb}
use Rattle.dl_migrate.specs.Sweeping.{is_over}
use Rattle.dl_migrate.proofs.ListLemmas.{count-drop}
use Rattle.dl_migrate.proofs.sweep.over.Goals as goal
use Rattle.dl_migrate.proofs.sweep.over.Goals.{then-row-horizon, else-row-horizon}

pub loop-i-preserved : goal.loop-i-preserved
loop-i-preserved c =
    let row = c.row.result in
    let all = c.loop-i.invariant.counted in
    let few = c.loop-i.invariant.few in
    let more = count-drop (is_over c.args.horizon) c.args.shard.now c.loop-i.i row c.row.ensures in
    elim c.if-row-horizon.branch [
      | then-row-horizon w ↦
          (let one = ap {B = ℕ} (λ b. cond b 1 0) (le-leb row.last c.args.horizon w.if-row-horizon.true) in
          let is = w.over-is in record {
            counted = omega (arith, all, more, one, is);
            few = omega (arith, few, is);
          })
      | else-row-horizon w ↦
          (let none = ap {B = ℕ} (λ b. cond b 1 0) (lt-leb row.last c.args.horizon w.if-row-horizon.false) in
          let is = w.over-is in record {
            counted = omega (arith, all, more, none, is);
            few = omega (arith, few, is);
          })
    ]
