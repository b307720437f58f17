use Rattle.std.proofs.Common.{◌∙◌, ◌==◌, ◌∷◌, ◌++◌, [], true, false, not, map, sym, ap, append-nil}
use Rattle.std.proofs.lemmas.List.{map-append}
use Rattle.std.specs.List.{list_any}
use Rattle.dl_epoch.specs.Frozen.{Frozen}
use Rattle.dl_epoch.specs.Covering.{Kept, kept}
use Rattle.dl_core.proofs.MaintainedLemmas.{without_more}
use Rattle.dl_core.proofs.reclaim.entries_without.Goals as goal
use Rattle.dl_core.proofs.reclaim.entries_without.Goals.{then-not-is_among+in_ok-counting+in_ok-push, else-not-is_among}

pub loop-entry-preserved : goal.loop-entry-preserved
loop-entry-preserved c =
    let ids = c.args.ids.now in
    let e = c.entry-item.result in
    let others = c.loop-entry.others in
    let q = (λ (k : Kept). not (list_any (λ id. id == k.epoch.id) ids)) in
    let told = ap not (sym (c.is_among.ensures ∙ ap (λ n. list_any (λ id. id == n) ids) (c.id.ensures.id ∙ ap (λ (f : Frozen). f.id) c.deref.ensures))) in
    elim c.if-not-is_among.branch [
      | then-not-is_among+in_ok-counting+in_ok-push w ↦
          ap (map kept) w.others-is ∙ ap (map kept) w.in_ok-push.ensures.ok ∙ map-append kept others (w.in_ok-counting.field-0 ∷ [])
          ∙ ap (λ k. map kept others ++ k ∷ []) w.in_ok-counting.ensures
          ∙ without_more q c.args.entries.now c.loop-entry.entry-index e (map kept others) c.loop-entry-test.true c.entry-item.is c.loop-entry.invariant true
          (told ∙ ap not w.if-not-is_among.true)
      | else-not-is_among w ↦
          ap (map kept) w.others-is ∙ sym (append-nil (map kept others))
          ∙ without_more q c.args.entries.now c.loop-entry.entry-index e (map kept others) c.loop-entry-test.true c.entry-item.is c.loop-entry.invariant false
          (told ∙ ap not w.if-not-is_among.false)
    ]
