use Rattle.std.proofs.Common.{◌+◌, ◌-◌, ◌<◌, ◌++◌, ◌∷◌, [], map, length, sym, ap, subst, ◌∙◌, arith}
use Rattle.std.specs.List.Sorted.{IsStrictlyIncreasing}
use Rattle.std.proofs.lemmas.List.{length-map}
use Rattle.dl_epoch.specs.Frozen.{Frozen}
use Rattle.dl_epoch.specs.Covering.{kept, AreEntries}
use Rattle.dl_epoch.specs.declared.entry.Entry.{Entry}
use Rattle.dl_migrate.specs.Reclaiming.{dead_ids, is_dead_before}
use Rattle.dl_migrate.proofs.CoverLemmas.{Reclaims, Reclaims-skip, Reclaims-more, Reclaims-all, dead_rise}
use Rattle.dl_migrate.proofs.reclaim.dead.Goals as goal
use Rattle.dl_migrate.proofs.reclaim.dead.Goals.{then-is_dead_before+in_ok-push, else-is_dead_before}

pub loop-i-preserved : goal.loop-i-preserved
loop-i-preserved c =
    let entries = c.entries-entries.result.now in
    let pins = c.args.pins.now in
    let i = c.loop-i.i in
    let x = c.index-entries-i.result in
    let y = c.index-entries-i-in-loop-i.result in
    let are = subst AreEntries (sym c.entries-entries.ensures.entries) c.entries-entries.ensures.ascending in
    let end = c.saturating_sub-i-end.ensures in
    let test = c.loop-i-test.true in
    let inside : i < length entries - 1 = omega (arith, end, test) in
    let told = ap (λ (e : Entry). is_dead_before x.rows x.first e.first pins) c.index-entries-i-in-loop-i.is ∙ sym c.is_dead_before.ensures in
    elim c.if-is_dead_before.branch [
      | then-is_dead_before+in_ok-push w ↦
          Reclaims-more entries pins i x y are inside c.index-entries-i.is c.index-entries-i-in-loop-i.is c.loop-i.ids c.if-is_dead_before.ids
          (told ∙ w.if-is_dead_before.true)
          (w.ids-is ∙ w.in_ok-push.ensures.ok ∙ ap (λ n. c.loop-i.ids ++ n ∷ []) (w.id.ensures.id ∙ ap (λ (f : Frozen). f.id) w.deref.ensures))
          c.loop-i.invariant
      | else-is_dead_before w ↦
          subst (Reclaims (map kept entries) pins (i + 1)) (sym w.ids-is)
          (Reclaims-skip entries pins i x y are inside c.index-entries-i.is c.index-entries-i-in-loop-i.is c.loop-i.ids
          (told ∙ w.if-is_dead_before.false) c.loop-i.invariant)
    ]

pub returns-clause-dead : goal.returns-clause-dead
returns-clause-dead c =
    let es = map kept c.entries-entries.result.now in
    let long = length-map c.entries-entries.result.now kept in
    let end = c.saturating_sub-i-end.ensures in
    let test = c.loop-i-test.false in
    Reclaims-all es c.args.pins.now c.loop-i.i c.loop-i.ids (omega (arith, long, end, test)) c.loop-i.invariant
    ∙ ap (λ es. dead_ids es c.args.pins.now) c.entries-entries.ensures.entries

pub returns-clause-ascending : goal.returns-clause-ascending
returns-clause-ascending c = subst IsStrictlyIncreasing (sym (returns-clause-dead c)) (dead_rise c.args.epochs.now c.args.pins.now c.entries-entries.ensures.ascending)
