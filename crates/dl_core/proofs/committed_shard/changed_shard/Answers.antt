use Rattle.std.proofs.Common.{length, length-append, ap, ◌∙◌, arith, get_or}
use Rattle.std.proofs.lemmas.List.{length-map}
use Rattle.dl_core.specs.Next.{ended_at}
use Rattle.dl_core.specs.Changes.{blank}
use Rattle.dl_core.proofs.ShardChangeLemmas.{length-left}
use Rattle.dl_core.proofs.committed_shard.changed_shard.Goals as goal

pub with-requires-clause-fits : goal.with-requires-clause-fits
with-requires-clause-fits c =
    let rows = c.args.shard.now in
    let places = c.args.places.now in
    let ended = c.in_ok-ended_rows.field-0 in
    let n = ap length c.in_ok-ended_rows.ensures
    ∙ length-map places (λ p. ended_at c.args.version (get_or rows p blank)) in
    let a = ap length (c.as_slice.ensures.value ∙ c.in_ok-extend_from_slice.ensures.items)
    ∙ length-append c.into_vec-rows.result.items c.args.new.now in
    let b = ap length c.into_vec-rows.ensures in
    let whole = length-left rows places c.requires.ascending c.requires.within in
    let fits = c.requires.fits in
    omega (arith, n, a, b, whole, fits)
