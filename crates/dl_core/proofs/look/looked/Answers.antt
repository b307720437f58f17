use Rattle.std.proofs.Common.{◌≡◌, ◌∙◌, take, filter, ap}
use Rattle.std.specs.Arc.{arc_value}
use Rattle.dl_row.specs.Lists.{count}
use Rattle.dl_row.specs.Rows.{Epoch, visible}
use Rattle.dl_epoch.specs.Frozen.{from_version}
use Rattle.dl_epoch.specs.Covering.{kept}
use Rattle.dl_core.proofs.LookLemmas.{classes_fit, roles_fit, entries_fit, rows_fit, count_entries, rows_in_le, behind_is, shards_count, shards_rows, looked_is}
use Rattle.dl_core.proofs.look.looked.Goals as goal

-- the epoch that is read is the current one
is_current : (c : goal.After-deref-epoch) → from_version c.current-current.result.now.first c.deref-epoch.result.now ≡ c.args.root.now.current
is_current c = ap (from_version c.current-current.result.now.first) c.deref-epoch.ensures ∙ c.current-current.ensures.epoch

pub classes_of-requires : goal.classes_of-requires
classes_of-requires c =
    let fit = classes_fit c.args.root.now c.book-book.ensures.sound c.current-current.result.now.first c.deref-epoch.result.now (is_current c) in
    record { as_many = fit.0; few = fit.1 }

pub roles_of-requires : goal.roles_of-requires
roles_of-requires c =
    let is = ap (from_version c.current-current.result.now.first) c.deref-epoch.ensures ∙ c.current-current.ensures.epoch in
    let fit = roles_fit c.args.root.now c.book-book.ensures.sound c.current-current.result.now.first c.deref-epoch.result.now is in
    record { as_many = fit.0; few = fit.1 }

pub first_visible-requires : goal.first_visible-requires
first_visible-requires c = c.held_shards-shards.ensures.ascending

pub count_visible-requires : goal.count_visible-requires
count_visible-requires c = rows_fit c.args.root.now c.book-book.ensures.sound arc_value c.held_shards-shards.result.now c.held_shards-shards.ensures

pub overflow_sub-result : goal.overflow_sub-result
overflow_sub-result c =
    rows_in_le c.args.root.now (kept c.current-current.result.now) c.book-book.result.now.rows c.current-current.ensures.rows c.book-book.ensures.book.rows

pub overflow_cast-result : goal.overflow_cast-result
overflow_cast-result c =
    entries_fit c.args.root.now c.book-book.ensures.sound _
    (count_entries c.args.root.now c.book-book.result.now c.entries.result.now c.book-book.ensures.book c.entries.ensures.entries)

pub returns : goal.returns
returns c =
    let root = c.args.root.now in
    let n = c.args.n in
    let book = c.book-book.result.now in
    let tells = c.book-book.ensures.book in
    let shards = c.held_shards-shards.result.now in
    let are = c.held_shards-shards.ensures in
    let entry = c.current-current.result.now in
    let is = ap (from_version entry.first) c.deref-epoch.ensures ∙ c.current-current.ensures.epoch in
    looked_is root n _
    tells.version
    (c.id.ensures.id ∙ ap (λ (e : Epoch). e.id) is)
    (count_entries root book c.entries.result.now tells c.entries.ensures.entries)
    tells.rows
    (c.count_visible.ensures ∙ shards_count arc_value shards (visible book.version) root are ∙ ap (λ v. count (visible v) root.rows) tells.version)
    (behind_is root (kept entry) book.rows c.current-current.ensures.rows c.current-current.ensures.epoch tells.rows)
    (c.in_ok-classes.ensures ∙ ap (λ (e : Epoch). e.classes) is)
    (c.in_ok-roles.ensures ∙ ap (λ (e : Epoch). e.roles) is)
    (c.in_ok-rows.ensures ∙ ap (λ rows. take n (filter (visible book.version) rows)) (shards_rows arc_value shards root are)
    ∙ ap (λ v. take n (filter (visible v) root.rows)) tells.version)
