use Rattle.std.proofs.Common.{◌≡◌, ◌+◌, ◌∷◌, ◌++◌, [], map, sym, ap, subst, ◌∙◌, arith}
use Rattle.std.proofs.lemmas.List.{map-append, get_or_default}
use Rattle.std.specs.Arc.{arc_value}
use Rattle.dl_row.specs.Lists.{ordered}
use Rattle.dl_row.specs.Rows.{row_cmp}
use Rattle.dl_core.specs.Root.{epochs, shard}
use Rattle.dl_core.specs.Next.{ended}
use Rattle.dl_core.specs.Committing.{AreShardsAfter}
use Rattle.dl_core.proofs.EntryLemmas.{no_shards, shard_more}
use Rattle.dl_core.proofs.committed.shards_after.Goals as goal

pub loop-i-init : goal.loop-i-init
loop-i-init c =
    subst (AreShardsAfter c.args.root.now c.args.gone.now c.args.parts.now c.args.version 0)
    (sym (ap (map arc_value) c.new-shards.ensures))
    (no_shards c.args.root.now c.args.gone.now c.args.parts.now c.args.version)

pub loop-i-preserved : goal.loop-i-preserved
loop-i-preserved c =
    let root = c.args.root.now in
    let i = c.loop-i.i in
    let parts = c.args.parts.now in
    let read = c.as_slice-new.ensures ∙ c.index-parts-i.is
    ∙ get_or_default parts i c.index-parts-i.result []
    (let n = c.requires.parts in let m = c.shards-i-end.ensures.count in let h = c.loop-i-test.true in
    omega (arith, n, m, h)) in
    subst (AreShardsAfter root c.args.gone.now parts c.args.version (i + 1))
    (sym (ap (map arc_value) c.in_ok-push.ensures.ok
    ∙ map-append arc_value c.loop-i.shards (c.in_ok-committed_shard.field-0 ∷ [])))
    (shard_more root c.args.gone.now parts c.args.version i (map arc_value c.loop-i.shards)
    (arc_value c.in_ok-committed_shard.field-0) c.loop-i.invariant
    (λ after are. c.in_ok-committed_shard.ensures after are
    ∙ ap (λ rs. ordered row_cmp (map (ended (epochs root) after c.args.version) (shard root i) ++ rs)) read))

pub returns : goal.returns
returns c =
    let m = c.shards-i-end.ensures.count in
    let a = c.loop-i-test.false in
    let b = c.loop-i.auto.i-end in
    let same : c.loop-i.i ≡ c.args.root.now.shards = omega (arith, m, a, b) in
    subst (λ n. AreShardsAfter c.args.root.now c.args.gone.now c.args.parts.now c.args.version n
    (map arc_value c.loop-i.shards)) same c.loop-i.invariant
