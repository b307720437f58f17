use Rattle.std.proofs.Common.{◌∷◌, ◌++◌, [], map, take, get_or, sym, ap, ap₂, ◌∙◌}
use Rattle.std.proofs.lemmas.List.{take_more, map-append}
use Rattle.std.proofs.lemmas.Option.{get_or_from_slice_get}
use Rattle.dl_core.specs.Next.{ended_at}
use Rattle.dl_core.specs.Changes.{blank}
use Rattle.dl_core.proofs.committed_shard.ended_rows.Goals as goal

pub loop-place-preserved : goal.loop-place-preserved
loop-place-preserved c =
    let rows = c.args.shard.now in
    let places = c.args.places.now in
    let i = c.loop-place.place-index in
    c.in_ok-push.ensures.ok
    ∙ ap₂ (λ rs r. rs ++ r ∷ []) c.loop-place.invariant
    (c.ended_at.ensures ∙ ap (ended_at c.args.version)
    (sym (get_or_from_slice_get rows (get_or places i 0) c.row.result blank c.row.ensures)))
    ∙ sym (map-append (λ p. ended_at c.args.version (get_or rows p blank)) (take i places) (get_or places i 0 ∷ []))
    ∙ sym (ap (map (λ p. ended_at c.args.version (get_or rows p blank))) (take_more places i 0 c.loop-place-test.true))
