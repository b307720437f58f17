use Rattle.std.proofs.Common.{◌≡◌, ◌+◌, ◌∷◌, [], map, sym, ap, subst, ◌∙◌, arith}
use Rattle.std.proofs.lemmas.List.{map-append}
use Rattle.std.specs.Arc.{arc_value}
use Rattle.dl_core.specs.Maintaining.{AreShardsWith}
use Rattle.dl_core.proofs.MaintainedLemmas.{with_none, with_more}
use Rattle.dl_core.proofs.refilled.shards_with.Goals as goal

pub loop-j-init : goal.loop-j-init
loop-j-init c =
    subst (AreShardsWith c.args.root.now c.args.i (arc_value c.in-Ok.shared) 0) (sym (ap (map arc_value) c.new-shards.ensures))
    (with_none c.args.root.now c.args.i (arc_value c.in-Ok.shared))

pub loop-j-preserved : goal.loop-j-preserved
loop-j-preserved c =
    subst (AreShardsWith c.args.root.now c.args.i (arc_value c.in-Ok.shared) (c.loop-j.j + 1))
    (sym (ap (map arc_value) c.in_ok-push.ensures.ok ∙ map-append arc_value c.loop-j.shards (c.in_ok-one_shard.field-0 ∷ [])))
    (with_more c.args.root.now c.args.i (arc_value c.in-Ok.shared) c.loop-j.j (map arc_value c.loop-j.shards)
    (arc_value c.in_ok-one_shard.field-0) c.in_ok-one_shard.ensures c.loop-j.invariant)

pub returns : goal.returns
returns c =
    let a = c.loop-j-test.false in
    let b = c.loop-j.auto.j-end in
    let m = c.shards-j-end.ensures.count in
    let same : c.loop-j.j ≡ c.args.root.now.shards = omega (arith, m, a, b) in
    subst (λ n. AreShardsWith c.args.root.now c.args.i c.args.shard n (map arc_value c.loop-j.shards)) same
    (subst (λ s. AreShardsWith c.args.root.now c.args.i s c.loop-j.j (map arc_value c.loop-j.shards)) c.in-Ok.ensures.ok c.loop-j.invariant)
