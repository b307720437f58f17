use Rattle.std.proofs.Common.{◌∷◌, ◌++◌, [], map, take, length, sym, ap, ◌∙◌, arith}
use Rattle.std.proofs.lemmas.List.{length-map, map-append, take-map}
use Rattle.dl_epoch.specs.Covering.{kept}
use Rattle.dl_core.proofs.EntryLemmas.{entries_are, some_entries}
use Rattle.dl_core.proofs.committed.entries_after.Goals as goal

pub older_count-requires : goal.older_count-requires
older_count-requires c =
    let some = some_entries c.args.root.now c.book-book.result.now c.book-book.ensures.book in
    let n = ap length c.entries-entries.ensures.entries in
    let m = length-map c.entries-entries.result.now kept in
    omega (arith, some, n, m)

pub returns : goal.returns
returns c =
    let book = c.book-book.result.now in
    let n = ap length c.entries-entries.ensures.entries in
    let m = length-map c.entries-entries.result.now kept in
    let count = c.older_count.ensures in
    entries_are c.args.root.now book c.book-book.ensures.book c.args.opens c.older_count.result
    (omega (arith, n, m, count)) (kept c.args.current) (map kept c.push.new.self)
    (ap (map kept) c.in_ok-push.ensures.ok ∙ map-append kept c.in_ok-after.after (c.args.current ∷ [])
    ∙ ap (λ ks. ks ++ kept c.args.current ∷ [])
    (c.in_ok-after.ensures ∙ ap (map kept) c.split_at.ensures.front
    ∙ sym (take-map kept c.older_count.result c.entries-entries.result.now)
    ∙ ap (take c.older_count.result) c.entries-entries.ensures.entries))
