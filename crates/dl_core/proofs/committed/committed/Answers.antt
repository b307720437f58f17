use Rattle.std.proofs.Common.{◌+◌, map, length, refl, sym, ap, subst, ◌∙◌}
use Rattle.std.specs.List.{All}
use Rattle.std.specs.Arc.{arc_value}
use Rattle.dl_epoch.specs.Covering.{kept}
use Rattle.dl_core.specs.Loading.{IsFactIn}
use Rattle.dl_core.specs.Next.{committed}
use Rattle.dl_core.proofs.CommittedLemmas.{new_known, parts_moved, parts_fit, in_order, after_held}
use Rattle.dl_core.proofs.HeldLemmas.{held_over, held_root, ok_is}
use Rattle.dl_core.proofs.RuleLemmas.{rule_exists}
use Rattle.dl_core.proofs.committed.committed.Goals as goal

pub rows_by_shard-requires-clause-known : goal.rows_by_shard-requires-clause-known
rows_by_shard-requires-clause-known c =
    subst (λ e. All (IsFactIn e.signature) c.args.new.now) (sym c.deref.ensures)
    (new_known c.args.root.now c.args.ontology.now c.args.new.now c.args.gone.now c.requires.ready
    c.book-book.ensures.sound c.requires.commit
    (kept c.in_ok-current.current) c.in_ok-current.ensures.epoch)

pub shards_after-requires-clause-parts : goal.shards_after-requires-clause-parts
shards_after-requires-clause-parts c =
    (parts_moved c.args.new.now (c.book-book.result.now.version + 1) c.shards.result c.args.root.now.shards
    c.deref.result.now (kept c.in_ok-current.current).epoch
    c.in_ok-parts.parts.items c.deref-2.result.now c.deref.ensures c.shards.ensures.count c.deref-2.ensures.value
    c.in_ok-parts.ensures 0).count

pub shards_after-requires-clause-fit : goal.shards_after-requires-clause-fit
shards_after-requires-clause-fit c =
    let root = c.args.root.now in
    let version = c.book-book.result.now.version + 1 in
    parts_fit root c.args.ontology.now c.args.new.now c.args.gone.now c.requires.ready c.book-book.ensures.sound
    c.requires.commit
    (kept c.in_ok-current.current) c.in_ok-current.ensures.epoch version
    (ap (λ v. v + 1) c.book-book.ensures.book.version) c.deref-2.result.now
    (parts_moved c.args.new.now version c.shards.result root.shards c.deref.result.now
    (kept c.in_ok-current.current).epoch
    c.in_ok-parts.parts.items c.deref-2.result.now c.deref.ensures c.shards.ensures.count c.deref-2.ensures.value
    c.in_ok-parts.ensures)

pub of-requires : goal.of-requires
of-requires c =
    let root = c.args.root.now in
    let version = c.book-book.result.now.version + 1 in
    in_order root c.args.ontology.now c.args.new.now c.args.gone.now c.requires.ready c.book-book.ensures.sound
    c.requires.commit
    (kept c.in_ok-current.current) c.in_ok-current.ensures.epoch version
    (ap (λ v. v + 1) c.book-book.ensures.book.version) c.deref-2.result.now
    (parts_moved c.args.new.now version c.shards.result root.shards c.deref.result.now
    (kept c.in_ok-current.current).epoch
    c.in_ok-parts.parts.items c.deref-2.result.now c.deref.ensures c.shards.ensures.count c.deref-2.ensures.value
    c.in_ok-parts.ensures)
    (map kept c.in_ok-entries.entries) c.in_ok-entries.ensures

pub of-requires-2 : goal.of-requires-2
of-requires-2 c =
    let root = c.args.root.now in
    let version = c.book-book.result.now.version + 1 in
    let shards = map arc_value c.in_ok-shards.shards in
    let held = after_held root c.args.ontology.now c.args.new.now c.args.gone.now c.requires.ready
    c.book-book.ensures.sound c.requires.commit
    (kept c.in_ok-current.current) c.in_ok-current.ensures.epoch version
    (ap (λ v. v + 1) c.book-book.ensures.book.version) c.deref-2.result.now
    (parts_moved c.args.new.now version c.shards.result root.shards c.deref.result.now
    (kept c.in_ok-current.current).epoch
    c.in_ok-parts.parts.items c.deref-2.result.now c.deref.ensures c.shards.ensures.count c.deref-2.ensures.value
    c.in_ok-parts.ensures)
    (map kept c.in_ok-entries.entries) c.in_ok-entries.ensures c.in_ok-current.ensures.frozen
    c.in_ok-current.ensures.rows
    c.book-book.result.now c.book-book.ensures.book (record {
      version = version;
      epochs = c.of.result;
      pins = c.in_ok-copied_pins.field-0;
      rows = c.book-book.result.now.rows + length c.args.new.now;
    }) shards refl c.of.ensures (c.in_ok-copied_pins.ensures ∙ c.as_slice.ensures ∙ c.book-book.ensures.book.pins)
    (ap (λ n. n + length c.args.new.now) c.book-book.ensures.book.rows) c.in_ok-shards.ensures rule_exists.0
    rule_exists.1 in
    held_over (committed rule_exists.0 root c.requires.commit.to.edits) (record {
      version = version;
      epochs = c.of.result;
      pins = c.in_ok-copied_pins.field-0;
      rows = c.book-book.result.now.rows + length c.args.new.now;
    }) shards held

pub returns : goal.returns
returns c = λ numbering rule commit.
    let root = c.args.root.now in
    let version = c.book-book.result.now.version + 1 in
    let shards = map arc_value c.in_ok-shards.shards in
    let held = after_held root c.args.ontology.now c.args.new.now c.args.gone.now c.requires.ready
    c.book-book.ensures.sound commit
    (kept c.in_ok-current.current) c.in_ok-current.ensures.epoch version
    (ap (λ v. v + 1) c.book-book.ensures.book.version) c.deref-2.result.now
    (parts_moved c.args.new.now version c.shards.result root.shards c.deref.result.now
    (kept c.in_ok-current.current).epoch
    c.in_ok-parts.parts.items c.deref-2.result.now c.deref.ensures c.shards.ensures.count c.deref-2.ensures.value
    c.in_ok-parts.ensures)
    (map kept c.in_ok-entries.entries) c.in_ok-entries.ensures c.in_ok-current.ensures.frozen
    c.in_ok-current.ensures.rows
    c.book-book.result.now c.book-book.ensures.book (record {
      version = version;
      epochs = c.of.result;
      pins = c.in_ok-copied_pins.field-0;
      rows = c.book-book.result.now.rows + length c.args.new.now;
    }) shards refl c.of.ensures (c.in_ok-copied_pins.ensures ∙ c.as_slice.ensures ∙ c.book-book.ensures.book.pins)
    (ap (λ n. n + length c.args.new.now) c.book-book.ensures.book.rows) c.in_ok-shards.ensures numbering rule in
    ok_is c.of-2.result c.of-2.ensures (held_root (committed numbering root commit.to.edits) (record {
      version = version;
      epochs = c.of.result;
      pins = c.in_ok-copied_pins.field-0;
      rows = c.book-book.result.now.rows + length c.args.new.now;
    }) shards held)
