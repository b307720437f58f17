use Rattle.std.proofs.Common.{◌+◌, sym, ap, subst, ◌∙◌, arith}
use Rattle.std.proofs.lemmas.Bool.{le-leb, lt-leb}
use Rattle.dl_migrate.specs.Sweeping.{is_over}
use Rattle.dl_migrate.specs.declared.pick.Picked.{Picked}
use Rattle.dl_migrate.proofs.PickLemmas.{Picking, Picking-skip, Picking-more}
use Rattle.dl_migrate.proofs.pick.picked_over.Goals as goal
use Rattle.dl_migrate.proofs.pick.picked_over.Goals.{then-row-horizon+in_ok-add, else-row-horizon}

pub loop-i-preserved : goal.loop-i-preserved
loop-i-preserved c =
    let row = c.row-row.result in
    let now = c.loop-i.picked in
    elim c.if-row-horizon.branch [
      | then-row-horizon+in_ok-add w ↦
          Picking-more c.args.n (is_over c.args.horizon) c.args.shard.now c.loop-i.i row c.row-row.ensures now.places now.rows c.loop-i.invariant
          c.if-row-horizon.picked.places c.if-row-horizon.picked.rows (le-leb row.last c.args.horizon (let t = w.if-row-horizon.true in omega (arith, t)))
          (ap (λ (p : Picked). p.places) w.picked-is ∙ w.in_ok-add.ensures.places) (ap (λ (p : Picked). p.rows) w.picked-is ∙ w.in_ok-add.ensures.rows)
      | else-row-horizon w ↦
          subst (λ (p : Picked). Picking c.args.n (is_over c.args.horizon) c.args.shard.now (c.loop-i.i + 1) p.places p.rows) (sym w.picked-is)
          (Picking-skip c.args.n (is_over c.args.horizon) c.args.shard.now c.loop-i.i row c.row-row.ensures now.places now.rows c.loop-i.invariant
          (lt-leb row.last c.args.horizon (let t = w.if-row-horizon.false in omega (arith, t))))
    ]
