use Rattle.std.proofs.Common.{◌<◌, [], ◌∷◌, map, length, refl, ap, ◌∙◌, arith}
use Rattle.std.specs.Arc.{arc_value}
use Rattle.std.proofs.lemmas.List.{get_or_default, length-map, map-append}
use Rattle.dl_row.specs.Lists.{ordered}
use Rattle.dl_row.specs.Rows.{row_cmp}
use Rattle.dl_epoch.specs.Frozen.{from_version}
use Rattle.dl_core.specs.Next.{row_for}
use Rattle.dl_core.proofs.PartLemmas.{made_none, next_fits, made_more, made_all}
use Rattle.dl_core.proofs.loaded_shards.loaded_shards.Goals as goal

pub loop-i-init : goal.loop-i-init
loop-i-init c =
    let row = row_for (from_version 1 c.args.epoch.now) 1 in
    made_none c.args.shards (map row c.args.facts.now) c.in_ok-parts.parts.items (map arc_value c.new-made.result)
    (ap (map arc_value) c.new-made.ensures) (c.in_ok-parts.ensures 1)

pub shard_of-requires : goal.shard_of-requires
shard_of-requires c =
    let row = row_for (from_version 1 c.args.epoch.now) 1 in
    let parts = c.loop-i.parts.items in
    let i = c.loop-i.i in
    let made = c.loop-i.invariant in
    let many = made.many in
    let inside : i < length parts = omega (arith, many, c.loop-i-test.true) in
    let is = c.replace-rows.ensures.value ∙ c.index_mut.ensures.value
    ∙ get_or_default parts i c.index_mut.result.now [] inside in
    let fits = next_fits c.args.shards i (map row c.args.facts.now) parts (map arc_value c.loop-i.made) made
    c.loop-i-test.true in
    let rows = length-map c.args.facts.now row in
    let few = c.requires.few in
    omega (arith, ap length is, fits, rows, few)

pub loop-i-preserved : goal.loop-i-preserved
loop-i-preserved c =
    let row = row_for (from_version 1 c.args.epoch.now) 1 in
    let parts = c.loop-i.parts.items in
    let i = c.loop-i.i in
    let made = c.loop-i.invariant in
    let shard = c.in_ok-shard_of.field-0 in
    let many = made.many in
    let inside : i < length parts = omega (arith, many, c.loop-i-test.true) in
    let is = c.replace-rows.ensures.value ∙ c.index_mut.ensures.value
    ∙ get_or_default parts i c.index_mut.result.now [] inside in
    made_more c.args.shards i (map row c.args.facts.now) parts (map arc_value c.loop-i.made) made c.loop-i-test.true _
    (map arc_value c.push.new.self) c.replace-rows.new.dest (arc_value shard) refl
    (c.in_ok-shard_of.ensures ∙ ap (ordered row_cmp) is)
    (ap (map arc_value) c.in_ok-push.ensures.ok ∙ map-append arc_value c.loop-i.made (shard ∷ []))

pub returns : goal.returns
returns c =
    let row = row_for (from_version 1 c.args.epoch.now) 1 in
    made_all c.args.shards c.loop-i.i (map row c.args.facts.now) c.loop-i.parts.items (map arc_value c.loop-i.made)
    c.loop-i.invariant c.loop-i-test.false c.loop-i.auto.i-end
