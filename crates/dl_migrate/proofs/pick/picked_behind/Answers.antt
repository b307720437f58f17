use Rattle.std.proofs.Common.{◌+◌, not, sym, ap, subst, ◌∙◌}
use Rattle.std.proofs.lemmas.Bool.{eq-eqb, ne_eqb}
use Rattle.dl_migrate.specs.Moving.{is_behind}
use Rattle.dl_migrate.specs.declared.pick.Picked.{Picked}
use Rattle.dl_migrate.proofs.PickLemmas.{Picking, Picking-skip, Picking-more}
use Rattle.dl_migrate.proofs.pick.picked_behind.Goals as goal
use Rattle.dl_migrate.proofs.pick.picked_behind.Goals.{then-row-id+in_ok-add, else-row-id}

pub loop-i-preserved : goal.loop-i-preserved
loop-i-preserved c =
    let row = c.row-row.result in
    let now = c.loop-i.picked in
    elim c.if-row-id.branch [
      | then-row-id+in_ok-add w ↦
          Picking-more c.args.n (is_behind c.args.id) c.args.shard.now c.loop-i.i row c.row-row.ensures now.places now.rows c.loop-i.invariant
          c.if-row-id.picked.places c.if-row-id.picked.rows (ap not (ne_eqb row.epoch c.args.id w.if-row-id.true))
          (ap (λ (p : Picked). p.places) w.picked-is ∙ w.in_ok-add.ensures.places) (ap (λ (p : Picked). p.rows) w.picked-is ∙ w.in_ok-add.ensures.rows)
      | else-row-id w ↦
          subst (λ (p : Picked). Picking c.args.n (is_behind c.args.id) c.args.shard.now (c.loop-i.i + 1) p.places p.rows) (sym w.picked-is)
          (Picking-skip c.args.n (is_behind c.args.id) c.args.shard.now c.loop-i.i row c.row-row.ensures now.places now.rows c.loop-i.invariant
          (ap not (eq-eqb row.epoch c.args.id w.if-row-id.false)))
    ]
