use Rattle.std.proofs.Common.{◌+◌, ◌-◌, ◌/◌, ◌<◌, ◌≤◌, is_lt, sym, ap, ◌∙◌, arith}
use Rattle.dl_row.proofs.ScanLemmas.{read_at}
use Rattle.dl_row.proofs.SearchLemmas.{Bounds-above, Bounds-below}
use Rattle.dl_row.proofs.StepLemmas.{Halves-next}
use Rattle.dl_row.proofs.search.rows_below.Goals as goal

pub loop-low-preserved-then-is_lt : goal.loop-low-preserved-then-is_lt
loop-low-preserved-then-is_lt g c =
    let rows = g.R.Rows.rows c.args.rows.now in
    let low = c.loop-low.low in
    let high = c.loop-low.high in
    let middle = low + (high - low) / 2 in
    let test = c.loop-low-test.true in
    let inside : middle < high = omega (arith, test) in
    let gap : high - (middle + 1) ≤ (high - low) / 2 = omega (arith, test) in
    let some : 0 < high - low = omega (arith, test) in
    let behind = c.loop-low.invariant.behind in
    record {
      bounds = Bounds-above c.args.bound.now rows low high middle c.look-row.result c.count-high.ensures.up inside (read_at rows middle c.look-row.result c.look-row.ensures.row)
          c.loop-low.invariant.bounds (ap is_lt (sym c.cmp.ensures) ∙ sym c.if-is_lt.ensures);
      behind = omega (arith, behind);
      few = λ digits h. Halves-next c.args.steps.now c.loop-low.steps c.look-row.new.steps (high - low) (high - (middle + 1)) digits some gap
          c.look-row.ensures.step (c.loop-low.invariant.few digits h);
    }

pub loop-low-preserved : goal.loop-low-preserved
loop-low-preserved g c =
    let rows = g.R.Rows.rows c.args.rows.now in
    let low = c.loop-low.low in
    let high = c.loop-low.high in
    let middle = low + (high - low) / 2 in
    let test = c.loop-low-test.true in
    let inside : middle < high = omega (arith, test) in
    let above : low ≤ middle = omega arith in
    let gap : middle - low ≤ (high - low) / 2 = omega arith in
    let some : 0 < high - low = omega (arith, test) in
    record {
      bounds = Bounds-below c.args.bound.now rows low high middle c.look-row.result c.count-high.ensures.up inside (read_at rows middle c.look-row.result c.look-row.ensures.row)
          c.loop-low.invariant.bounds above (ap is_lt (sym c.cmp.ensures) ∙ sym c.if-is_lt.ensures);
      behind = c.loop-low.invariant.behind;
      few = λ digits h. Halves-next c.args.steps.now c.loop-low.steps c.look-row.new.steps (high - low) (middle - low) digits some gap
          c.look-row.ensures.step (c.loop-low.invariant.few digits h);
    }
