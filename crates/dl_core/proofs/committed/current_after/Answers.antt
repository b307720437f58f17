use Rattle.std.proofs.Common.{◌+◌, ap, ◌∙◌, arith}
use Rattle.dl_core.specs.Root.{rows_in}
use Rattle.dl_migrate.specs.Tallies.{carries}
use Rattle.dl_core.proofs.EntryLemmas.{buildable, count_le, opened_epoch}
use Rattle.dl_epoch.specs.Covering.{kept}
use Rattle.dl_epoch.proofs.EpochLemmas.{ok_weaker}
use Rattle.dl_core.proofs.committed.current_after.Goals as goal

pub new_entry-requires : goal.new_entry-requires
new_entry-requires c = buildable c.args.root.now c.args.ontology.now c.requires.accepted
    (kept c.current-current.result.now) c.current-current.ensures.epoch c.current-current.ensures.frozen

pub overflow_add-current : goal.overflow_add-current
overflow_add-current c =
    let root = c.args.root.now in
    let rows = c.current-current.ensures.rows in
    let most = c.book-book.ensures.sound.stands.rows_are.kept in
    let part = count_le (carries root.current.id) root.rows in
    let few = c.requires.few in
    let same = ap (λ e. rows_in root e) c.current-current.ensures.epoch in
    omega (arith, rows, most, part, few, same)

pub returns-then-ontology-clause-epoch : goal.returns-then-ontology-clause-epoch
returns-then-ontology-clause-epoch c = λ numbering rule a.
    let root = c.args.root.now in
    let id = c.id.ensures.id ∙ ap (λ e. e.id) c.deref.ensures ∙ ap (λ e. e.id) c.current-current.ensures.epoch in
    let first = c.book-book.ensures.book.version in
    ok_weaker c.new_entry.result c.new_entry.ensures
    (λ entry new.
    opened_epoch root c.args.ontology.now numbering rule a c.if-ontology.true _ _ _ (kept entry) (ap (λ n. n + 1) id) (ap (λ n. n + 1) first) new)
