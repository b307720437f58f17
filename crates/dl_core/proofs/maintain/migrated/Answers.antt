use Rattle.std.proofs.Common.{◌≡◌, ◌+◌, ◌≤◌, ◌<◌, ◌-◌, ◌∙◌, map, refl, sym, ap, subst, arith}
use Rattle.std.specs.List.{All}
use Rattle.dl_epoch.specs.Covering.{kept, epoch_in}
use Rattle.dl_epoch.specs.Frozen.{from_version}
use Rattle.dl_migrate.specs.Moving.{CanMove}
use Rattle.dl_core.specs.Root.{rows_in}
use Rattle.dl_core.specs.Next.{behind, migrated}
use Rattle.dl_core.proofs.MaintainedLemmas.{current_among, all_move}
use Rattle.dl_core.proofs.RefillLemmas.{moved_refill, moved_left, migrated_is, no_shard}
use Rattle.dl_core.proofs.maintain.migrated.Goals as goal

pub returns-then-i-shards : goal.returns-then-i-shards
returns-then-i-shards c = λ numbering stream.
    no_shard c.args.root.now c.in_ok-copy.field-0 c.args.i _ (let f = c.if-i-shards.true in let k = c.shards.ensures.count in omega (arith, f, k))
    c.in_ok-copy.ensures

pub renumber-requires-clause-to : goal.renumber-requires-clause-to
renumber-requires-clause-to c =
    current_among c.args.root.now c.book-book.result.now c.book-book.ensures.book (kept c.current-current.result.now) c.current-current.ensures.epoch
    c.deref-epoch.result.now c.deref-epoch.ensures

pub renumber-requires-clause-rows : goal.renumber-requires-clause-rows
renumber-requires-clause-rows c =
    subst (All (CanMove (map epoch_in c.book-book.result.now.epochs) c.deref-epoch.result.now.signature)) (sym c.shard.ensures)
    (all_move c.args.root.now c.book-book.result.now c.args.i c.deref-epoch.result.now c.current-current.result.now.first c.book-book.ensures.book
    c.book-book.ensures.sound (ap (from_version c.current-current.result.now.first) c.deref-epoch.ensures ∙ c.current-current.ensures.epoch))

left : (c : goal.In_ok-shard)
    → (c.current-current.result.now.rows + c.in_ok-shard.field-0.moved ≤ c.book-book.result.now.rows)
    × (c.book-book.result.now.rows - c.current-current.result.now.rows - c.in_ok-shard.field-0.moved ≡ behind (migrated c.args.root.now c.args.i c.args.n))
left c =
    moved_left c.args.root.now c.args.i c.args.n c.book-book.ensures.sound (map epoch_in c.book-book.result.now.epochs) c.book-book.ensures.book.epochs
    c.deref-epoch.result.now c.current-current.result.now.first
    (ap (from_version c.current-current.result.now.first) c.deref-epoch.ensures ∙ c.current-current.ensures.epoch)
    c.shard.result.now c.shard.ensures c.in_ok-shard.field-0.shard c.in_ok-shard.field-0.moved c.in_ok-shard.field-0.per_epoch c.in_ok-shard.field-0.per_epoch
    c.in_ok-shard.ensures.rows c.in_ok-shard.ensures.moved c.in_ok-shard.ensures.per_epoch refl c.book-book.result.now.rows c.current-current.result.now.rows
    c.book-book.ensures.book.rows (c.current-current.ensures.rows ∙ ap (rows_in c.args.root.now) c.current-current.ensures.epoch)

pub overflow_sub-left : goal.overflow_sub-left
overflow_sub-left c = let h = (left c).0 in omega (arith, h)

pub overflow_sub-left-2 : goal.overflow_sub-left-2
overflow_sub-left-2 c = let h = (left c).0 in omega (arith, h)

pub refilled-requires : goal.refilled-requires
refilled-requires c = (
  (migrated c.args.root.now c.args.i c.args.n).rows,
  moved_refill c.args.root.now c.args.i c.args.n c.book-book.ensures.sound (map epoch_in c.book-book.result.now.epochs) c.book-book.ensures.book.epochs
      c.deref-epoch.result.now c.current-current.result.now.first
      (ap (from_version c.current-current.result.now.first) c.deref-epoch.ensures ∙ c.current-current.ensures.epoch)
      c.shard.result.now c.shard.ensures c.in_ok-shard.field-0.shard c.in_ok-shard.field-0.moved c.in_ok-shard.field-0.per_epoch c.as_slice.result.now
      c.in_ok-shard.ensures.rows c.in_ok-shard.ensures.moved c.in_ok-shard.ensures.per_epoch c.as_slice.ensures,
)

pub returns : goal.returns
returns c = λ numbering stream.
    let root = c.args.root.now in
    let m = c.in_ok-shard.field-0 in
    let es = map epoch_in c.book-book.result.now.epochs in
    let is = ap (from_version c.current-current.result.now.first) c.deref-epoch.ensures ∙ c.current-current.ensures.epoch in
    let f = c.if-i-shards.false in
    let k = c.shards.ensures.count in
    let inside : c.args.i < c.args.root.now.shards = omega (arith, f, k) in
    migrated_is root c.args.i c.args.n c.book-book.ensures.sound es c.book-book.ensures.book.epochs c.deref-epoch.result.now
    c.current-current.result.now.first is c.shard.result.now c.shard.ensures m.shard m.moved m.per_epoch m.per_epoch
    c.in_ok-shard.ensures.rows c.in_ok-shard.ensures.moved c.in_ok-shard.ensures.per_epoch refl c.in_ok-after.after _ inside
    (c.in_ok-after.ensures (migrated root c.args.i c.args.n).rows
    (moved_refill root c.args.i c.args.n c.book-book.ensures.sound es c.book-book.ensures.book.epochs c.deref-epoch.result.now
    c.current-current.result.now.first is c.shard.result.now c.shard.ensures m.shard m.moved m.per_epoch c.as_slice.result.now
    c.in_ok-shard.ensures.rows c.in_ok-shard.ensures.moved c.in_ok-shard.ensures.per_epoch c.as_slice.ensures))
    (moved_left root c.args.i c.args.n c.book-book.ensures.sound es c.book-book.ensures.book.epochs c.deref-epoch.result.now
    c.current-current.result.now.first is c.shard.result.now c.shard.ensures m.shard m.moved m.per_epoch m.per_epoch
    c.in_ok-shard.ensures.rows c.in_ok-shard.ensures.moved c.in_ok-shard.ensures.per_epoch refl c.book-book.result.now.rows c.current-current.result.now.rows
    c.book-book.ensures.book.rows (c.current-current.ensures.rows ∙ ap (rows_in root) c.current-current.ensures.epoch)).1
