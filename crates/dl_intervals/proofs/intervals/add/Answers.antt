use Rattle.std.proofs.Common.{◌≡◌, ◌+◌, ◌-◌, ◌<◌, length, get_or, sym, ap, ◌∙◌, arith, rules}
use Rattle.std.proofs.lemmas.List.{get_or_default}
use Rattle.dl_intervals.specs.Intervals.{Interval}
use Rattle.dl_intervals.proofs.Growth.{Adds-push, Adds-widen}
use Rattle.dl_intervals.proofs.intervals.add.Goals as goal
use Rattle.dl_intervals.proofs.intervals.add.Goals.{else-count-gt0-via-then-count-gt0+else-next-index, else-count-gt0-via-else-count-gt0}

pub returns-then-next-index : goal.returns-then-next-index
returns-then-next-index c =
    let xs = c.args.items.now.items in
    let k = c.len-count.result - 1 in
    let inside : k < length xs = grind arith in
    let read = c.index.result.now in
    let last = c.index_mut-last.result.now in
    let same : read ≡ last = c.index.ensures ∙ (get_or_default xs k read last inside ∙ sym c.index_mut-last.ensures.value) in
    let ends = ap (λ (i : Interval). i.1) same in
    Adds-widen xs k last c.args.next _ c.requires.sorted c.requires.small c.requires.later c.requires.inhabited c.requires.next_small (search rules) (search rules) (grind (arith, ends)) (search rules) (search rules)

pub returns : goal.returns
returns c =
    let xs = c.args.items.now.items in
    let before : (d : Interval) → 0 < length xs → (get_or xs (length xs - 1) d).1 + 1 < c.args.next.0 = λ d h.
    elim c.else-count-gt0.branch [
      | else-count-gt0-via-then-count-gt0+else-next-index w ↦
          (let k = c.len-count.result - 1 in
          let size : length xs - 1 ≡ k = grind arith in
          let same : get_or xs (length xs - 1) d ≡ get_or xs k w.index.result.now = rw size (get_or_default xs k d w.index.result.now (omega arith)) in
          let ends = ap (λ (i : Interval). i.1) (same ∙ sym w.index.ensures) in
          omega arith)
      | else-count-gt0-via-else-count-gt0 w ↦ absurd (grind arith)
    ] in
    rw c.in_ok-push.ensures.items (Adds-push xs c.args.next c.requires.sorted c.requires.small c.requires.later c.requires.inhabited c.requires.next_small before)
