use Rattle.std.proofs.Common.{◌≡◌, ◌+◌, ◌<◌, ◌≤◌, ◌++◌, [], filter, length, sym, ap, subst, ◌∙◌}
use Rattle.std.specs.List.{All}
use Rattle.std.specs.List.Sorted.{IsStrictlyIncreasing}
use Rattle.dl_row.specs.Lists.{Ascends, count, left_of, ordered}
use Rattle.dl_row.specs.Rows.{row_cmp, visible}
use Rattle.dl_row.specs.Shards.{max_rows}
use Rattle.dl_migrate.specs.Sweeping.{is_over}
use Rattle.dl_migrate.specs.Tallies.{carries, listed, IsTally}
use Rattle.dl_migrate.proofs.ListLemmas.{filter-drop_first}
use Rattle.dl_migrate.proofs.PickedLemmas.{Picked-rise, Picked-within, Picked-count, Picked-up, Picked-out, Picked-fits, Picked-counts}
use Rattle.dl_migrate.proofs.SweepLemmas.{over_unseen}
use Rattle.dl_migrate.proofs.sweep.swept.Goals as goal

pub tally_of-requires : goal.tally_of-requires
tally_of-requires c =
    let p = c.in_ok-picked.picked in
    subst (Ascends row_cmp) (sym c.as_slice.ensures)
    (Picked-up c.args.n (is_over c.args.horizon) c.args.shard.now p.places p.rows c.in_ok-picked.ensures.picked c.in_ok-picked.ensures.up)

pub with-requires-clause-ascending : goal.with-requires-clause-ascending
with-requires-clause-ascending c =
    let p = c.in_ok-picked.picked in
    subst IsStrictlyIncreasing (sym c.as_slice-2.ensures)
    (Picked-rise c.args.n (is_over c.args.horizon) c.args.shard.now p.places p.rows c.in_ok-picked.ensures.picked)

pub with-requires-clause-within : goal.with-requires-clause-within
with-requires-clause-within c =
    let p = c.in_ok-picked.picked in
    subst (All (λ k. k < length c.args.shard.now)) (sym c.as_slice-2.ensures)
    (Picked-within c.args.n (is_over c.args.horizon) c.args.shard.now p.places p.rows c.in_ok-picked.ensures.picked)

pub with-requires-clause-fits : goal.with-requires-clause-fits
with-requires-clause-fits c =
    let p = c.in_ok-picked.picked in
    subst (λ places. length (left_of places c.args.shard.now) + 0 ≤ max_rows) (sym c.as_slice-2.ensures)
    (Picked-fits c.args.n (is_over c.args.horizon) c.args.shard.now p.places p.rows c.in_ok-picked.ensures.picked c.in_ok-picked.ensures.most)

pub returns-clause-rows : goal.returns-clause-rows
returns-clause-rows c =
    let p = c.in_ok-picked.picked in
    c.in_ok-shard.ensures ∙ ap (λ places. ordered row_cmp (left_of places c.args.shard.now ++ [])) c.as_slice-2.ensures
    ∙ Picked-out c.args.n (is_over c.args.horizon) c.args.shard.now p.places p.rows c.in_ok-picked.ensures.picked c.in_ok-picked.ensures.up

pub returns-clause-dropped : goal.returns-clause-dropped
returns-clause-dropped c =
    let p = c.in_ok-picked.picked in
    c.len.ensures ∙ Picked-count c.args.n (is_over c.args.horizon) c.args.shard.now p.places p.rows c.in_ok-picked.ensures.picked

pub returns-clause-visible : goal.returns-clause-visible
returns-clause-visible c = λ v h.
    subst (λ rows. filter (visible v) rows ≡ filter (visible v) c.args.shard.now) (sym (returns-clause-rows c))
    (filter-drop_first (is_over c.args.horizon) (visible v) (λ r over. over_unseen c.args.horizon v r h over) c.args.n c.args.shard.now)

pub returns-clause-per_epoch : goal.returns-clause-per_epoch
returns-clause-per_epoch c =
    subst (λ rows. IsTally rows c.in_ok-per_epoch.per_epoch) (c.as_slice.ensures ∙ c.in_ok-picked.ensures.picked.items_are) c.in_ok-per_epoch.ensures

pub returns-clause-counts : goal.returns-clause-counts
returns-clause-counts c = λ id.
    let p = c.in_ok-picked.picked in
    ap (λ rows. count (carries id) rows + listed id c.in_ok-per_epoch.per_epoch) (returns-clause-rows c)
    ∙ Picked-counts c.args.n (is_over c.args.horizon) c.args.shard.now p.places p.rows c.in_ok-picked.ensures.picked c.in_ok-per_epoch.per_epoch
    (subst (λ rows. IsTally rows c.in_ok-per_epoch.per_epoch) c.as_slice.ensures c.in_ok-per_epoch.ensures) id
