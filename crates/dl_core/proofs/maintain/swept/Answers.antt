use Rattle.std.proofs.Common.{◌<◌, ◌∙◌, map, ap₂, arith}
use Rattle.dl_core.specs.Next.{least, swept}
use Rattle.dl_event.specs.declared.pin.Pin.{Pin}
use Rattle.dl_core.proofs.RefillLemmas.{swept_refill, swept_is, no_shard}
use Rattle.dl_core.proofs.maintain.swept.Goals as goal

pub returns-then-i-shards : goal.returns-then-i-shards
returns-then-i-shards c = λ numbering stream.
    no_shard c.args.root.now c.in_ok-copy.field-0 c.args.i _ (let f = c.if-i-shards.true in let k = c.shards.ensures.count in omega (arith, f, k))
    c.in_ok-copy.ensures

pub refilled-requires : goal.refilled-requires
refilled-requires c =
    let root = c.args.root.now in
    let s = c.in_ok-shard.field-0 in
    let tells = c.book-book.ensures.book in (
      (swept root c.args.i c.args.n).rows,
      swept_refill root c.args.i c.args.n c.horizon-horizon.result s.dropped s.shard c.shard.result.now s.per_epoch c.as_slice-2.result.now
          c.book-book.ensures.sound c.shard.ensures
          (c.horizon-horizon.ensures ∙ ap₂ (λ v ps. least v (map (λ (p : Pin). p.version) ps)) tells.version (c.as_slice.ensures ∙ tells.pins))
          c.in_ok-shard.ensures.rows c.in_ok-shard.ensures.dropped c.in_ok-shard.ensures.per_epoch c.as_slice-2.ensures,
    )

pub returns : goal.returns
returns c = λ numbering stream.
    let root = c.args.root.now in
    let s = c.in_ok-shard.field-0 in
    let tells = c.book-book.ensures.book in
    let at = c.horizon-horizon.ensures ∙ ap₂ (λ v ps. least v (map (λ (p : Pin). p.version) ps)) tells.version (c.as_slice.ensures ∙ tells.pins) in
    let f = c.if-i-shards.false in
    let k = c.shards.ensures.count in
    let inside : c.args.i < c.args.root.now.shards = omega (arith, f, k) in
    swept_is root c.in_ok-after.after c.args.i c.args.n c.horizon-horizon.result s.dropped s.left s.shard c.shard.result.now c.shard.ensures at
    c.in_ok-shard.ensures.rows c.in_ok-shard.ensures.dropped c.in_ok-shard.ensures.left inside
    (c.in_ok-after.ensures (swept root c.args.i c.args.n).rows
    (swept_refill root c.args.i c.args.n c.horizon-horizon.result s.dropped s.shard c.shard.result.now s.per_epoch c.as_slice-2.result.now
    c.book-book.ensures.sound c.shard.ensures at c.in_ok-shard.ensures.rows c.in_ok-shard.ensures.dropped c.in_ok-shard.ensures.per_epoch c.as_slice-2.ensures))
