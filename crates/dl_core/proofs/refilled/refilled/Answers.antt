use Rattle.std.proofs.Common.{◌-◌, ◌∙◌, List, map, refl, sym, ap, subst}
use Rattle.std.specs.Arc.{arc_value}
use Rattle.std.specs.List.{All}
use Rattle.dl_row.specs.Rows.{Epoch}
use Rattle.dl_row.specs.declared.row.Row.{Row}
use Rattle.dl_epoch.specs.Frozen.{Frozen}
use Rattle.dl_epoch.specs.Covering.{kept}
use Rattle.dl_core.specs.Held.{IsHeld}
use Rattle.dl_core.specs.Maintaining.{recounted, HasThose, IsRefill}
use Rattle.dl_core.specs.Next.{with_rows}
use Rattle.dl_core.proofs.HeldLemmas.{held_over, held_root, ok_is}
use Rattle.dl_core.proofs.MaintainedLemmas.{has_those, dropped_fit, recounted_rise, refilled_held}
use Rattle.dl_core.proofs.refilled.refilled.Goals as goal

pub recounted-requires-clause-few : goal.recounted-requires-clause-few
recounted-requires-clause-few c = c.requires.1.few

pub recounted-requires-clause-those : goal.recounted-requires-clause-those
recounted-requires-clause-those c =
    subst (All (HasThose c.args.gone.now)) (sym c.entries.ensures.entries)
    (has_those c.args.root.now c.args.i c.requires.0 c.args.shard c.args.gone.now c.args.come c.args.dropped c.requires.1 c.book-book.result.now
    c.book-book.ensures.book c.book-book.ensures.sound)

pub of-requires : goal.of-requires
of-requires c =
    recounted_rise c.args.root.now c.args.i c.requires.0 c.args.shard c.args.gone.now c.args.come c.args.dropped c.requires.1 c.book-book.result.now
    c.book-book.ensures.book c.id-id.result (map kept c.in_ok-entries.entries)
    (c.in_ok-entries.ensures ∙ ap (map (recounted c.args.gone.now c.id-id.result c.args.come)) c.entries.ensures.entries)

pub overflow_sub-book : goal.overflow_sub-book
overflow_sub-book c =
    dropped_fit c.args.root.now c.args.i c.requires.0 c.args.shard c.args.gone.now c.args.come c.args.dropped c.requires.1 c.book-book.result.now
    c.book-book.ensures.book

held : (c : goal.In_ok-copied_pins) → (rows : List Row) → IsRefill c.args.root.now c.args.i rows c.args.shard c.args.gone.now c.args.come c.args.dropped
    → IsHeld (with_rows c.args.root.now rows) (record {
      version = c.book-book.result.now.version;
      epochs = c.of.result;
      pins = c.in_ok-copied_pins.field-0;
      rows = c.book-book.result.now.rows - c.args.dropped;
    }) (map arc_value c.in_ok-shards.shards)
held c rows r =
    refilled_held c.args.root.now c.args.i rows c.args.shard c.args.gone.now c.args.come c.args.dropped r c.book-book.result.now
    c.book-book.ensures.book _ (map arc_value c.in_ok-shards.shards) c.id-id.result
    (c.id-id.ensures.id ∙ ap (λ (e : Frozen). e.id) c.deref.ensures ∙ ap (λ (e : Epoch). e.id) c.current.ensures.epoch) refl
    (c.of.ensures ∙ c.in_ok-entries.ensures ∙ ap (map (recounted c.args.gone.now c.id-id.result c.args.come)) c.entries.ensures.entries)
    (c.in_ok-copied_pins.ensures ∙ c.as_slice.ensures) refl c.in_ok-shards.ensures

pub of-requires-2 : goal.of-requires-2
of-requires-2 c = held_over (with_rows c.args.root.now c.requires.0) _ (map arc_value c.in_ok-shards.shards) (held c c.requires.0 c.requires.1)

pub returns : goal.returns
returns c = λ rows r.
    ok_is c.of-2.result c.of-2.ensures (held_root (with_rows c.args.root.now rows) _ (map arc_value c.in_ok-shards.shards) (held c.before rows r))
