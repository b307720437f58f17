use Rattle.std.proofs.Common.{◌≡◌, ◌++◌, take, filter, flat_map, sym, ap, subst, ◌∙◌, arith, false, Vec, Global}
use Rattle.dl_row.specs.declared.row.Row.{Row}
use Rattle.std.specs.Arc.{arc_value}
use Rattle.std.specs.List.Sorted.{IsPermutation}
use Rattle.std.specs.Ordering.{is_gt}
use Rattle.std.proofs.lemmas.List.Elements.{filter-append}
use Rattle.dl_row.specs.Lists.{ordered}
use Rattle.dl_row.specs.Rows.{row_cmp, visible}
use Rattle.dl_row.proofs.RowLemmas.{rows_linear}
use Rattle.dl_edits.proofs.OrderedLemmas.{InOrder-filter}
use Rattle.dl_core.proofs.LookLemmas.{shards_more, shard_up, first_more, take_all, found_cut}
use Rattle.dl_core.proofs.look.first_visible.Goals as goal
use Rattle.dl_core.proofs.look.first_visible.Goals.{then-n-len, else-n-len}

pub loop-shard-preserved : goal.loop-shard-preserved
loop-shard-preserved c =
    let p = visible c.args.version in
    let n = c.args.n in
    let shards = c.args.shards.now in
    let i = c.loop-shard.shard-index in
    let a = c.shard-item.result in
    let before = flat_map arc_value (take i shards) in
    let here = arc_value a in
    let more = shards_more arc_value shards i a c.loop-shard-test.true c.shard-item.is in
    let parts = ap (filter p) more ∙ filter-append p before here in
    let up = InOrder-filter (λ x y. is_gt (row_cmp x y) ≡ false) p here (shard_up arc_value shards i a c.loop-shard-test.true c.shard-item.is c.requires) in
    ap (λ rows. take n (ordered row_cmp rows)) (c.in_ok-push_first.ensures ∙ ap (λ rows. c.loop-shard.rows ++ take n (filter p rows)) c.deref.ensures)
    ∙ first_more rows_linear n c.loop-shard.rows (filter p before) (filter p here) up c.loop-shard.invariant
    ∙ ap (λ rows. take n (ordered row_cmp rows)) (sym parts)

pub returns : goal.returns
returns c =
    let p = visible c.args.version in
    let n = c.args.n in
    let found = c.loop-shard.rows in
    let sorted = c.sort_unstable.new.self.items in
    let all = flat_map arc_value c.args.shards.now in
    let moved = subst (λ rows. IsPermutation rows sorted) c.into_vec-rows.ensures c.sort_unstable.ensures.permutation in
    let whole = ap (λ shards. take n (ordered row_cmp (filter p (flat_map arc_value shards)))) (take_all c.loop-shard.shard-index c.args.shards.now c.loop-shard-test.false) in
    let cut : c.if-n-len.rows.items ≡ take n sorted = elim c.if-n-len.branch [
      | then-n-len w ↦ ap (λ (v : Vec Row Global). v.items) w.rows-is ∙ w.truncate.ensures.items
      | else-n-len w ↦
          (let few = w.if-n-len.false in
          let count = c.len.ensures in
          let items = c.sort_unstable.new.self.ok.0 in
          ap (λ (v : Vec Row Global). v.items) w.rows-is ∙ sym (take_all n sorted (omega (arith, few, count, items))))
    ] in
    c.of.ensures
    ∙ found_cut p n found sorted c.if-n-len.rows.items all moved c.sort_unstable.ensures.sorted (c.loop-shard.invariant ∙ whole) cut
