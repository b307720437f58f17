use Rattle.std.proofs.Common.{◌≡◌, ◌≤◌, get_or, ap, sym, ◌∙◌}
use Rattle.dl_epoch.specs.declared.entry.Entry.{Entry}
use Rattle.std.specs.Arc.{arc_value}
use Rattle.std.proofs.lemmas.Result.{IfOk-weaker}
use Rattle.dl_normal.specs.Weight.{total_weight}
use Rattle.dl_epoch.specs.Frozen.{IsFrozen}
use Rattle.dl_epoch.specs.Known.{max_weight}
use Rattle.dl_core.proofs.PinnedEpochLemmas.{pin_has_entry}
use Rattle.dl_answer.specs.Readers.{Covers}
use Rattle.dl_answer.proofs.AskLemmas.{place_inside, entry_covers, entry_frozen, entry_light}
use Rattle.dl_answer.proofs.asked.pinned_epoch.Goals as goal

pub covering-place-requires : goal.covering-place-requires
covering-place-requires g c =
    pin_has_entry (g.R.Reads.reader c.args.reads.now).root c.book-book.result.now (g.R.Reads.reader c.args.reads.now).stream
    c.args.version c.book-book.ensures.sound c.book-book.ensures.book (c.pin-pin.ensures.held ∙ c.requires.pin)

pub bounds-entries-place : goal.bounds-entries-place
bounds-entries-place g c =
    place_inside c.book-book.result.now c.args.version c.covering-place.result c.entries-entries.result.now
    c.entries-entries.ensures.entries c.covering-place.ensures.place

pub returns-clause-covers : goal.returns-clause-covers
returns-clause-covers g c =
    let root = (g.R.Reads.reader c.args.reads.now).root in
    let entry = c.index-entries-place.result in
    IfOk-weaker c.try_clone.result (λ a. arc_value a ≡ arc_value (get_or c.entries-entries.result.now c.covering-place.result entry).epoch) (λ a. Covers root c.args.version (arc_value a))
    (λ a its. entry_covers root c.book-book.result.now c.book-book.ensures.sound c.book-book.ensures.book c.args.version
    c.covering-place.result c.entries-entries.result.now entry c.entries-entries.ensures.entries
    c.covering-place.ensures.place c.covering-place.ensures.epoch c.index-entries-place.is (arc_value a)
    (its ∙ ap (λ (e : Entry). arc_value e.epoch) (sym c.index-entries-place.is)))
    c.try_clone.ensures

pub returns-clause-frozen : goal.returns-clause-frozen
returns-clause-frozen g c =
    let root = (g.R.Reads.reader c.args.reads.now).root in
    let entry = c.index-entries-place.result in
    IfOk-weaker c.try_clone.result (λ a. arc_value a ≡ arc_value (get_or c.entries-entries.result.now c.covering-place.result entry).epoch) (λ a. IsFrozen (arc_value a))
    (λ a its. entry_frozen root c.book-book.result.now c.book-book.ensures.sound c.book-book.ensures.book c.args.version
    c.covering-place.result c.entries-entries.result.now entry c.entries-entries.ensures.entries
    c.covering-place.ensures.place c.covering-place.ensures.epoch c.index-entries-place.is (arc_value a)
    (its ∙ ap (λ (e : Entry). arc_value e.epoch) (sym c.index-entries-place.is)))
    c.try_clone.ensures

pub returns-clause-weight : goal.returns-clause-weight
returns-clause-weight g c =
    let root = (g.R.Reads.reader c.args.reads.now).root in
    let entry = c.index-entries-place.result in
    IfOk-weaker c.try_clone.result (λ a. arc_value a ≡ arc_value (get_or c.entries-entries.result.now c.covering-place.result entry).epoch)
    (λ a. total_weight (arc_value a).axioms ≤ max_weight)
    (λ a its. entry_light root c.book-book.result.now c.book-book.ensures.sound c.book-book.ensures.book c.args.version
    c.covering-place.result c.entries-entries.result.now entry c.entries-entries.ensures.entries
    c.covering-place.ensures.place c.covering-place.ensures.epoch c.index-entries-place.is (arc_value a)
    (its ∙ ap (λ (e : Entry). arc_value e.epoch) (sym c.index-entries-place.is)))
    c.try_clone.ensures
