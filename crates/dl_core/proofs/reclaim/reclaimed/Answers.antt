use Rattle.std.proofs.Common.{◌∙◌, ◌==◌, not, filter, map, refl, ap, ap₂}
use Rattle.std.specs.Arc.{arc_value}
use Rattle.std.specs.List.{list_any}
use Rattle.dl_epoch.specs.Covering.{Kept, kept}
use Rattle.dl_core.specs.Root.{Root}
use Rattle.dl_core.specs.Next.{reclaimed}
use Rattle.dl_event.specs.declared.pin.Pin.{Pin}
use Rattle.dl_event.specs.declared.reply.Reply.{Reply}
use Rattle.dl_event.specs.declared.reply.Reply.TheVariants as reply
use Rattle.dl_core.proofs.HeldLemmas.{held_over, held_root}
use Rattle.dl_core.proofs.MaintainedLemmas.{dead_are, reclaimed_rise, reclaimed_held}
use Rattle.dl_core.proofs.reclaim.reclaimed.Goals as goal

pub of-requires : goal.of-requires
of-requires c =
    let tells = c.book-book.ensures.book in
    let q = (λ (k : Kept). not (list_any (λ id. id == k.epoch.id) c.as_slice-3.result.now)) in
    reclaimed_rise c.args.root.now c.book-book.result.now tells c.book-book.ensures.sound c.as_slice-2.result.now
    (c.as_slice-2.ensures ∙ c.in_ok-pins.ensures ∙ ap (map (λ (p : Pin). p.version)) (c.as_slice.ensures ∙ tells.pins))
    c.as_slice-3.result.now (c.as_slice-3.ensures ∙ c.in_ok-ids.ensures.dead) (map kept c.in_ok-entries.entries)
    (c.in_ok-entries.ensures ∙ ap (filter q) c.entries.ensures.entries)

pub of-requires-2 : goal.of-requires-2
of-requires-2 c =
    let tells = c.book-book.ensures.book in
    let q = (λ (k : Kept). not (list_any (λ id. id == k.epoch.id) c.as_slice-3.result.now)) in
    held_over (reclaimed c.args.root.now) _ (map arc_value c.in_ok-shards.shards)
    (reclaimed_held c.args.root.now c.book-book.result.now tells c.book-book.ensures.sound c.as_slice-2.result.now
    (c.as_slice-2.ensures ∙ c.in_ok-pins.ensures ∙ ap (map (λ (p : Pin). p.version)) (c.as_slice.ensures ∙ tells.pins))
    c.as_slice-3.result.now (c.as_slice-3.ensures ∙ c.in_ok-ids.ensures.dead) (map kept c.in_ok-entries.entries)
    (c.in_ok-entries.ensures ∙ ap (filter q) c.entries.ensures.entries) (record {
      version = c.book-book.result.now.version;
      epochs = c.of.result;
      pins = c.in_ok-copied_pins.field-0;
      rows = c.book-book.result.now.rows;
    }) (map arc_value c.in_ok-shards.shards) refl c.of.ensures (c.in_ok-copied_pins.ensures ∙ c.as_slice-4.ensures) refl c.in_ok-shards.ensures)

pub returns : goal.returns
returns c = λ numbering stream.
    let tells = c.book-book.ensures.book in
    let q = (λ (k : Kept). not (list_any (λ id. id == k.epoch.id) c.as_slice-3.result.now)) in
    ap₂ {C = Root × Reply} (λ r is. (r, reply.Reclaimed is))
    (c.in_ok-after.ensures ∙ held_root (reclaimed c.args.root.now) _ (map arc_value c.in_ok-shards.shards)
    (reclaimed_held c.args.root.now c.book-book.result.now tells c.book-book.ensures.sound c.as_slice-2.result.now
    (c.as_slice-2.ensures ∙ c.in_ok-pins.ensures ∙ ap (map (λ (p : Pin). p.version)) (c.as_slice.ensures ∙ tells.pins))
    c.as_slice-3.result.now (c.as_slice-3.ensures ∙ c.in_ok-ids.ensures.dead) (map kept c.in_ok-entries.entries)
    (c.in_ok-entries.ensures ∙ ap (filter q) c.entries.ensures.entries) (record {
      version = c.book-book.result.now.version;
      epochs = c.of.result;
      pins = c.in_ok-copied_pins.field-0;
      rows = c.book-book.result.now.rows;
    }) (map arc_value c.in_ok-shards.shards) refl c.of.ensures (c.in_ok-copied_pins.ensures ∙ c.as_slice-4.ensures) refl c.in_ok-shards.ensures))
    (dead_are c.args.root.now c.book-book.result.now tells c.book-book.ensures.sound c.as_slice-2.result.now
    (c.as_slice-2.ensures ∙ c.in_ok-pins.ensures ∙ ap (map (λ (p : Pin). p.version)) (c.as_slice.ensures ∙ tells.pins))
    c.in_ok-ids.ids c.in_ok-ids.ensures.dead)
