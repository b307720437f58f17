use Rattle.std.proofs.Common.{◌<◌, ◌≤◌, length, sym, ◌∙◌, arith}
use Rattle.dl_row.proofs.ScanLemmas.{ends-part, ends-shown, ends-hidden, read_at, on_err}
use Rattle.dl_row.proofs.scan.push_visible.Goals as goal
use Rattle.dl_row.proofs.scan.push_visible.Goals.{then-visible+in_ok-push, else-visible}

pub returns-in_err-push-clause-err : goal.returns-in_err-push-clause-err
returns-in_err-push-clause-err g c =
    let before : c.loop-i.i ≤ c.args.places.1 = (let t = c.loop-i-test.true in omega (arith, t)) in
    on_err c.from_residual.result
    (ends-part c.args.version (g.R.Rows.rows c.args.rows.now) c.args.places.0 c.loop-i.i c.args.places.1 c.args.out.now c.push.new.self c.loop-i.auto.i before
    (c.in_err-push.ensures.err ∙ c.loop-i.invariant.found))

pub loop-i-preserved : goal.loop-i-preserved
loop-i-preserved g c =
    let rows = g.R.Rows.rows c.args.rows.now in
    let low = c.args.places.0 in
    let i = c.loop-i.i in
    let row = c.look-row.result in
    let inside : i < length rows = (let t = c.loop-i-test.true in let w = c.requires.within in omega (arith, t, w)) in
    let read = read_at rows i row c.look-row.ensures.row in
    let order = c.loop-i.auto.i in
    let few = c.loop-i.invariant.few in
    let step = c.look-row.ensures.step in
    record {
      found = elim c.if-visible.branch [
        | then-visible+in_ok-push w ↦
            w.out-is ∙ ends-shown rows low i row order inside read c.args.version c.args.out.now c.loop-i.out w.push.new.self
            (sym c.visible.ensures ∙ w.if-visible.true) c.loop-i.invariant.found w.in_ok-push.ensures.ok
        | else-visible w ↦
            w.out-is ∙ ends-hidden rows low i row order inside read c.args.version c.args.out.now c.loop-i.out
            (sym c.visible.ensures ∙ w.if-visible.false) c.loop-i.invariant.found
      ];
      few = omega (arith, few, step, order);
    }
