use Rattle.std.proofs.Common.{map, refl, subst, ◌%◌, ◌∙◌, []}
use Rattle.std.proofs.lemmas.List.{get_or_default, take_all}
use Rattle.dl_terms.specs.declared.axiom.Fact.TheVariants.{Is}
use Rattle.dl_epoch.specs.Frozen.{from_version}
use Rattle.dl_core.specs.Next.{row_for}
use Rattle.dl_core.specs.Loading.{AreParts}
use Rattle.dl_core.proofs.PartLemmas.{Parts-none, Parts-inside, Parts-next}
use Rattle.dl_core.proofs.new_rows.rows_by_shard.Goals as goal

pub loop-fact-init : goal.loop-fact-init
loop-fact-init c = λ first. Parts-none c.args.shards c.in_ok-parts.parts.items c.in_ok-parts.ensures

pub loop-fact-preserved : goal.loop-fact-preserved
loop-fact-preserved c =
    λ first.
    let row = row_for (from_version first c.args.epoch.now) c.args.version in
    let parts = c.loop-fact.parts.items in
    let r = c.row_of-row.result in
    let i = r.s % c.args.shards in
    let was = c.index_mut.ensures.value ∙ get_or_default parts i c.index_mut.result.now []
    (Parts-inside c.args.shards c.requires.some _ r parts (c.loop-fact.invariant first)) in
    Parts-next c.args.shards c.requires.some c.args.facts.now c.loop-fact.fact-index c.loop-fact-test.true (Is 0 0) row
    parts _ r c.index_mut.result.now c.push.new.self (c.row_of-row.ensures first) was c.in_ok-push.ensures.ok refl
    (c.loop-fact.invariant first)

pub returns : goal.returns
returns c =
    λ first.
    let row = row_for (from_version first c.args.epoch.now) c.args.version in
    subst (λ facts. AreParts c.args.shards (map row facts) c.loop-fact.parts.items)
    (take_all c.loop-fact.fact-index c.args.facts.now c.loop-fact-test.false) (c.loop-fact.invariant first)
