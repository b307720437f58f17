use Rattle.std.proofs.Common.{get_or, rules}
use Rattle.std.proofs.lemmas.List.{get_or_default}
use Rattle.dl_intervals.specs.Intervals.{Interval}
use Rattle.dl_intervals.specs.Growing.{IsNext}
use Rattle.dl_intervals.proofs.Growth.{Merges-more, Merges-flip}
use Rattle.dl_intervals.proofs.intervals.merge.Goals as goal

pub loop-i-preserved-then-goes_left : goal.loop-i-preserved-then-goes_left
loop-i-preserved-then-goes_left c =
    let left = c.args.left.now in
    let right = c.args.right.now in
    let none : Interval = (0, 0) in
    let next : IsNext left c.loop-i.i right c.loop-i.j = c.if-goes_left.ensures.left in
    let x = get_or left c.loop-i.i none in
    record {
      left_range = search rules;
      right_range = c.loop-i.invariant.right_range;
      merged = Merges-more left right c.loop-i.i c.loop-i.j x c.loop-i.items.items _ c.requires.left_sorted (get_or_default left c.loop-i.i none x next.inside) next c.loop-i.invariant.merged c.in_ok-add.ensures;
    }

pub loop-i-preserved : goal.loop-i-preserved
loop-i-preserved c =
    let left = c.args.left.now in
    let right = c.args.right.now in
    let none : Interval = (0, 0) in
    let next : IsNext right c.loop-i.j left c.loop-i.i = c.if-goes_left.ensures.right in
    let x = get_or right c.loop-i.j none in
    let turned = Merges-flip left right c.loop-i.i c.loop-i.j c.loop-i.items.items c.loop-i.invariant.merged in
    let merged = Merges-more right left c.loop-i.j c.loop-i.i x c.loop-i.items.items _ c.requires.right_sorted (get_or_default right c.loop-i.j none x next.inside) next turned c.in_ok-add-2.ensures in
    record {
      left_range = c.loop-i.invariant.left_range;
      right_range = search rules;
      merged = Merges-flip right left _ c.loop-i.i _ merged;
    }
