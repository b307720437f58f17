use Rattle.std.proofs.Common.{◌++◌, length, length-append, sym, ap, subst, ◌∙◌, arith}
use Rattle.std.specs.List.Sorted.{IsPermutation}
use Rattle.dl_row.specs.Lists.{Ascends, ordered, left_of}
use Rattle.dl_row.specs.Laws.{row_total}
use Rattle.dl_row.specs.Rows.{row_cmp}
use Rattle.dl_row.proofs.OrderedLemmas.{no_items, sorted-ascends, sorted_is_ordered, ordered-ascends, ordered_together, length-ordered}
use Rattle.dl_row.proofs.RowLemmas.{rows_linear}
use Rattle.dl_row.proofs.shard.PlainShard.with.Goals as goal

pub merged-requires-clause-new : goal.merged-requires-clause-new
merged-requires-clause-new c =
    subst (Ascends row_cmp) (sym c.deref-2.ensures.value) (sorted-ascends row_total c.sort_unstable.new.self.items c.sort_unstable.ensures.sorted)

pub invariant_of-result : goal.invariant_of-result
invariant_of-result c =
    let up = sorted-ascends row_total c.sort_unstable.new.self.items c.sort_unstable.ensures.sorted in
    let sorted = c.sort_unstable.ensures.len in
    let copied = ap length c.in_ok-added.ensures.items in
    let fits = c.requires.fits in
    (up, omega (arith, sorted, copied, fits))

pub returns-then-len-eq0 : goal.returns-then-len-eq0
returns-then-len-eq0 c =
    let moved = subst (λ xs. IsPermutation xs c.sort_unstable.new.self.items) c.in_ok-added.ensures.items c.sort_unstable.ensures.permutation in
    let none = no_items c.args.self.now (sym c.len.ensures.count ∙ c.if-len-eq0.true) in
    sorted_is_ordered rows_linear c.args.new.now c.sort_unstable.new.self.items moved c.sort_unstable.ensures.sorted
    ∙ sym (ap (λ xs. ordered row_cmp (left_of c.args.without.now xs ++ c.args.new.now)) none)

pub invariant_of-result-2 : goal.invariant_of-result-2
invariant_of-result-2 c =
    let rows = c.deref.result.now in
    let added = c.deref-2.result.now in
    let e = c.in_ok-rows.ensures in
    let up = subst (Ascends row_cmp) (sym e) (ordered-ascends row_total (left_of c.args.without.now rows ++ added)) in
    let shown = ap (λ xs. length (left_of c.args.without.now xs)) (c.deref.ensures.value ∙ c.self.view_is) in
    let count = ap length e ∙ length-ordered row_cmp (left_of c.args.without.now rows ++ added) ∙ length-append (left_of c.args.without.now rows) added in
    let new = ap length c.deref-2.ensures.value in
    let sorted = c.sort_unstable.ensures.len in
    let copied = ap length c.in_ok-added.ensures.items in
    let fits = c.requires.fits in
    (up, omega (arith, shown, count, new, sorted, copied, fits))

pub returns : goal.returns
returns c =
    let left = left_of c.args.without.now c.args.self.now in
    let moved = subst (λ xs. IsPermutation xs c.sort_unstable.new.self.items) c.in_ok-added.ensures.items c.sort_unstable.ensures.permutation in
    c.in_ok-rows.ensures
    ∙ ap (λ xs. ordered row_cmp (left_of c.args.without.now xs ++ c.deref-2.result.now)) (c.deref.ensures.value ∙ c.self.view_is)
    ∙ ap (λ xs. ordered row_cmp (left ++ xs)) c.deref-2.ensures.value
    ∙ ordered_together rows_linear left c.args.new.now c.sort_unstable.new.self.items moved
