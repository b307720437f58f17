use Rattle.std.proofs.Common.{◌+◌, ◌++◌, ◌<◌, length, sym, ap, ◌∙◌, subst, append-nil, arith}
use Rattle.dl_row.specs.Shards.{AddsSome}
use Rattle.dl_row.specs.Searching.{between}
use Rattle.dl_row.proofs.ScanLemmas.{scanned-none, scanned-step, scanned-part, most-more, most-rest, run_ends, read_at, on_err}
use Rattle.dl_row.proofs.scan.scan_rows.Goals as goal

pub loop-i-init : goal.loop-i-init
loop-i-init g c =
    let rows = g.R.Rows.rows c.args.rows.now in
    record {
      found = sym (ap (λ ys. c.args.out.now ++ ys) (scanned-none c.args.epoch c.args.kind c.args.version rows) ∙ append-nil c.args.out.now);
      bound = λ digits h. omega arith;
    }

pub returns-in_err-push_visible-clause-err : goal.returns-in_err-push_visible-clause-err
returns-in_err-push_visible-clause-err g c =
    let rows = g.R.Rows.rows c.args.rows.now in
    let inside : c.loop-i.i < length c.args.ranges.now = (let n = c.len-i-end.ensures.count in omega arith) in
    on_err c.from_residual.result
    (scanned-part c.args.epoch c.args.kind c.args.ranges.now c.args.version rows c.loop-i.i c.get.result c.len-i-end.ensures.sorted c.count-count.ensures.up inside
    (read_at c.args.ranges.now c.loop-i.i c.get.result c.get.ensures.item) c.args.out.now c.loop-i.out c.push_visible.new.out c.loop-i.invariant.found
    (subst (AddsSome c.loop-i.out c.push_visible.new.out) (run_ends c.args.version c.run-places.ensures.run.are) c.in_err-push_visible.ensures.err))

pub returns-in_err-push_visible-clause-bound : goal.returns-in_err-push_visible-clause-bound
returns-in_err-push_visible-clause-bound g c digits h =
    let rows = g.R.Rows.rows c.args.rows.now in
    let inside : c.loop-i.i < length c.args.ranges.now = (let n = c.len-i-end.ensures.count in omega arith) in
    let more = most-more c.args.epoch c.args.kind c.args.ranges.now c.args.version rows c.loop-i.i c.get.result c.len-i-end.ensures.sorted c.count-count.ensures.up inside
    (read_at c.args.ranges.now c.loop-i.i c.get.result c.get.ensures.item) digits c.args.steps.now c.loop-i.steps c.run-places.new.steps c.push_visible.new.steps
    c.run-places.result.0 c.run-places.result.1 (c.loop-i.invariant.bound digits h) (c.run-places.ensures.few digits h) c.run-places.ensures.run
    c.in_err-push_visible.ensures.few in
    let rest = most-rest c.args.epoch c.args.kind c.args.ranges.now rows (c.loop-i.i + 1) digits c.len-i-end.ensures.sorted c.count-count.ensures.up in
    omega (arith, more, rest)

pub loop-i-preserved : goal.loop-i-preserved
loop-i-preserved g c =
    let rows = g.R.Rows.rows c.args.rows.now in
    let inside : c.loop-i.i < length c.args.ranges.now = (let n = c.len-i-end.ensures.count in omega arith) in
    let read = read_at c.args.ranges.now c.loop-i.i c.get.result c.get.ensures.item in
    record {
      found = scanned-step c.args.epoch c.args.kind c.args.ranges.now c.args.version rows c.loop-i.i c.get.result c.len-i-end.ensures.sorted
          c.count-count.ensures.up inside read c.args.out.now c.loop-i.out c.push_visible.new.out
          (between c.run-places.result.0 c.run-places.result.1 rows) c.loop-i.invariant.found c.run-places.ensures.run.are
          c.in_ok-push_visible.ensures.ok;
      bound = λ digits h. most-more c.args.epoch c.args.kind c.args.ranges.now c.args.version rows c.loop-i.i c.get.result c.len-i-end.ensures.sorted
          c.count-count.ensures.up inside read digits c.args.steps.now c.loop-i.steps c.run-places.new.steps c.push_visible.new.steps c.run-places.result.0
          c.run-places.result.1 (c.loop-i.invariant.bound digits h) (c.run-places.ensures.few digits h) c.run-places.ensures.run
          c.in_ok-push_visible.ensures.few;
    }
