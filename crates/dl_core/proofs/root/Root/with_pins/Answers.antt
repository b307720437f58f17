use Rattle.std.proofs.Common.{◌∙◌, refl, map}
use Rattle.std.specs.Arc.{arc_value}
use Rattle.dl_core.specs.Held.{IsHeld}
use Rattle.dl_core.specs.Next.{with_pins}
use Rattle.dl_core.proofs.HeldLemmas.{with_pins_held, held_over, held_root, ok_is}
use Rattle.dl_core.proofs.root.Root.with_pins.Goals as goal

held : (c : goal.After-of) → IsHeld (with_pins c.args.self.now c.args.pins) (record {
  version = c.book-book.result.now.version;
  epochs = c.of.result;
  pins = c.args.pins;
  rows = c.book-book.result.now.rows;
}) (map arc_value c.in_ok-shards.shards)
held c =
    with_pins_held c.args.self.now c.book-book.result.now _ (map arc_value c.in_ok-shards.shards) c.args.pins c.book-book.ensures.book c.in_ok-shards.ensures c.requires refl
    (c.of.ensures ∙ c.in_ok-entries.ensures ∙ c.entries.ensures.entries) refl refl

pub of-requires-2 : goal.of-requires-2
of-requires-2 c = held_over (with_pins c.args.self.now c.args.pins) _ (map arc_value c.in_ok-shards.shards) (held c)

pub returns : goal.returns
returns c = ok_is c.of-2.result c.of-2.ensures (held_root (with_pins c.args.self.now c.args.pins) _ (map arc_value c.in_ok-shards.shards) (held c.before))
