use Rattle.std.proofs.Common.{◌≡◌, ◌+◌, ◌<◌, ◌≤◌, ◌++◌, map, length, sym, ap, ap₂, subst, ◌∙◌}
use Rattle.std.specs.List.{All}
use Rattle.std.specs.List.Sorted.{IsStrictlyIncreasing}
use Rattle.std.proofs.lemmas.List.Elements.{All-weaker}
use Rattle.dl_row.specs.Lists.{Ascends, count, left_of, ordered}
use Rattle.dl_row.specs.Rows.{fact_of, row_cmp}
use Rattle.dl_row.specs.Shards.{max_rows}
use Rattle.dl_epoch.specs.Covering.{kept, epoch_in}
use Rattle.dl_epoch.specs.Frozen.{from_version}
use Rattle.dl_migrate.specs.Lists.{first_that}
use Rattle.dl_migrate.specs.Moving.{CanMove, IsSameRow, is_behind, renumbered}
use Rattle.dl_migrate.specs.Picking.{ArePicked}
use Rattle.dl_migrate.specs.Tallies.{carries, listed, IsTally}
use Rattle.dl_migrate.proofs.MoveLemmas.{epoch_is, found_among, same_row}
use Rattle.dl_migrate.proofs.MovedLemmas.{All-picked, Changed-in, Changed-fits, Migrated-facts, Migrated-others, Migrated-this}
use Rattle.dl_migrate.proofs.PickedLemmas.{Picked-count, Picked-rise, Picked-up, Picked-within}
use Rattle.dl_migrate.proofs.migrate.renumber.Goals as goal

pub tally_of-requires : goal.tally_of-requires
tally_of-requires c =
    let p = c.in_ok-picked.picked in
    subst (Ascends row_cmp) (sym c.as_slice.ensures)
    (Picked-up c.args.n (is_behind c.id.result) c.args.shard.now p.places p.rows c.in_ok-picked.ensures.picked c.in_ok-picked.ensures.up)

pub moved_rows-requires : goal.moved_rows-requires
moved_rows-requires c =
    let p = c.in_ok-picked.picked in
    let s = c.args.to.now.signature in
    subst (λ es. All (CanMove (map epoch_in es) s) c.as_slice-2.result.now) (sym c.entries.ensures.entries)
    (subst (All (CanMove (map epoch_in c.args.epochs.now) s)) (sym c.as_slice-2.ensures)
    (All-picked (CanMove (map epoch_in c.args.epochs.now) s) c.args.n (is_behind c.id.result) c.args.shard.now p.places p.rows c.in_ok-picked.ensures.picked c.requires.rows))

pub with-requires-clause-ascending : goal.with-requires-clause-ascending
with-requires-clause-ascending c =
    let p = c.in_ok-picked.picked in
    subst IsStrictlyIncreasing (sym c.as_slice-3.ensures)
    (Picked-rise c.args.n (is_behind c.id.result) c.args.shard.now p.places p.rows c.in_ok-picked.ensures.picked)

pub with-requires-clause-within : goal.with-requires-clause-within
with-requires-clause-within c =
    let p = c.in_ok-picked.picked in
    subst (All (λ k. k < length c.args.shard.now)) (sym c.as_slice-3.ensures)
    (Picked-within c.args.n (is_behind c.id.result) c.args.shard.now p.places p.rows c.in_ok-picked.ensures.picked)

pub with-requires-clause-fits : goal.with-requires-clause-fits
with-requires-clause-fits c =
    let p = c.in_ok-picked.picked in
    let f = renumbered (map epoch_in (map kept c.entries.result.now)) (from_version 0 c.args.to.now) in
    let put = c.as_slice-4.ensures ∙ c.in_ok-rows.ensures 0 ∙ ap (map f) c.as_slice-2.ensures in
    subst (λ places. length (left_of places c.args.shard.now) + length c.as_slice-4.result.now ≤ max_rows) (sym c.as_slice-3.ensures)
    (subst (λ rows. length (left_of p.places c.args.shard.now) + length rows ≤ max_rows) (sym put)
    (Changed-fits c.args.n (is_behind c.id.result) f c.args.shard.now p.places p.rows c.in_ok-picked.ensures.picked c.in_ok-picked.ensures.most))

pub returns-clause-rows : goal.returns-clause-rows
returns-clause-rows c = λ first.
    let p = c.in_ok-picked.picked in
    let rows = c.args.shard.now in
    let to = from_version first c.args.to.now in
    let f = renumbered (map epoch_in c.args.epochs.now) to in
    let put = c.as_slice-4.ensures ∙ c.in_ok-rows.ensures first
    ∙ ap₂ (λ es xs. map (renumbered (map epoch_in es) to) xs) c.entries.ensures.entries c.as_slice-2.ensures in
    c.in_ok-shard.ensures ∙ ap₂ (λ places new. ordered row_cmp (left_of places rows ++ new)) c.as_slice-3.ensures put
    ∙ Changed-in c.args.n (is_behind c.args.to.now.id) f rows p.places p.rows
    (subst (λ id. ArePicked c.args.n (is_behind id) rows p.places p.rows) c.id.ensures.id c.in_ok-picked.ensures.picked)

pub returns-clause-moved : goal.returns-clause-moved
returns-clause-moved c =
    let p = c.in_ok-picked.picked in
    let rows = c.args.shard.now in
    c.len.ensures
    ∙ Picked-count c.args.n (is_behind c.args.to.now.id) rows p.places p.rows
    (subst (λ id. ArePicked c.args.n (is_behind id) rows p.places p.rows) c.id.ensures.id c.in_ok-picked.ensures.picked)

pub returns-clause-same : goal.returns-clause-same
returns-clause-same c = λ first.
    let es = map epoch_in c.args.epochs.now in
    let to = c.args.to.now in
    let found = found_among c.args.epochs.now to c.entries.ensures.ascending c.requires.to in
    All-weaker (CanMove es to.signature) (λ r. IsSameRow es r (renumbered es (from_version first to) r))
    (λ r can. same_row es to c.id.ensures.frozen found.0 found.1 first r can) c.args.shard.now c.requires.rows

pub returns-clause-facts : goal.returns-clause-facts
returns-clause-facts c = λ says.
    let es = map epoch_in c.args.epochs.now in
    ap (count (λ r. says (fact_of es r) r.first r.last)) (returns-clause-rows c 0)
    ∙ Migrated-facts c.args.n es (from_version 0 c.args.to.now) c.args.shard.now says (returns-clause-same c 0)

pub returns-clause-per_epoch : goal.returns-clause-per_epoch
returns-clause-per_epoch c =
    subst (λ id. IsTally (first_that c.args.n (is_behind id) c.args.shard.now) c.in_ok-per_epoch.per_epoch) c.id.ensures.id
    (subst (λ rows. IsTally rows c.in_ok-per_epoch.per_epoch) (c.as_slice.ensures ∙ c.in_ok-picked.ensures.picked.items_are) c.in_ok-per_epoch.ensures)

pub returns-clause-others : goal.returns-clause-others
returns-clause-others c = λ id other.
    let es = map epoch_in c.args.epochs.now in
    let to = from_version 0 c.args.to.now in
    ap (λ rows. count (carries id) rows + listed id c.in_ok-per_epoch.per_epoch) (returns-clause-rows c 0)
    ∙ Migrated-others c.args.n es to c.args.shard.now c.in_ok-per_epoch.per_epoch (returns-clause-per_epoch c)
    (All-weaker (CanMove es to.signature) (λ r. (renumbered es to r).epoch ≡ to.id) (λ r can. epoch_is es to r can.fact can.stands) c.args.shard.now c.requires.rows)
    id other

pub returns-clause-this : goal.returns-clause-this
returns-clause-this c =
    let es = map epoch_in c.args.epochs.now in
    let to = from_version 0 c.args.to.now in
    ap (count (carries to.id)) (returns-clause-rows c 0)
    ∙ Migrated-this c.args.n es to c.args.shard.now
    (All-weaker (CanMove es to.signature) (λ r. (renumbered es to r).epoch ≡ to.id) (λ r can. epoch_is es to r can.fact can.stands) c.args.shard.now c.requires.rows)
    ∙ ap (λ m. count (carries to.id) c.args.shard.now + m) (sym (returns-clause-moved c))
