use Rattle.std.proofs.Common.{◌<◌, ◌≤◌, get_or, length, arith}
use Rattle.std.proofs.lemmas.List.{get_or_default}
use Rattle.dl_row.proofs.FindLemmas.{blank}
use Rattle.dl_migrate.proofs.TallyLemmas.{Tallies-run, Tallies-all}
use Rattle.dl_migrate.proofs.tally.tally_of.Goals as goal

pub loop-from-preserved : goal.loop-from-preserved
loop-from-preserved c =
    let rows = c.args.rows.now in
    let from = c.loop-from.from in
    let x = get_or rows from blank in
    let inside : from < length rows = (let t = c.loop-from-test.true in omega (arith, t)) in
    Tallies-run rows from c.run_end-to.result x c.loop-from.tally c.push.new.self c.requires inside (get_or_default rows from blank x inside)
    c.run_end-to.ensures c.in_ok-push.ensures.ok c.loop-from.invariant

pub returns : goal.returns
returns c =
    let rows = c.args.rows.now in
    let from = c.loop-from.from in
    let all : length rows ≤ from = (let t = c.loop-from-test.false in omega (arith, t)) in
    Tallies-all rows from c.loop-from.tally all c.loop-from.invariant
