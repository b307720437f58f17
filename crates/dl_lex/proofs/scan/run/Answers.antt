use Rattle.std.proofs.Common.{◌<◌, refl, arith}
use Rattle.dl_lex.specs.Grammar.{IsRun}
use Rattle.dl_lex.proofs.Tokens.{no_run, run_byte, token_of_run}
use Rattle.dl_lex.proofs.Ends.{no_run_at}
use Rattle.dl_lex.proofs.scan.run.Goals as goal

pub returns-then-end-at : goal.returns-then-end-at
returns-then-end-at c =
    let e = c.if-end-at.true in
    no_run c.args.bytes.now c.args.at c.requires.in_bounds (run_byte _ c.requires.plain) (no_run_at c.args.bytes.now c.args.at c.run_end-end.result c.run_end-end.ensures (λ kind some is. omega arith))

pub returns-in_err-kind : goal.returns-in_err-kind
returns-in_err-kind c =
    rw c.from_residual.ensures (no_run c.args.bytes.now c.args.at c.requires.in_bounds (run_byte _ c.requires.plain) (no_run_at c.args.bytes.now c.args.at c.run_end-end.result c.run_end-end.ensures (λ kind some is. c.in_err-kind.ensures kind is)))

pub returns : goal.returns
returns c =
    let i = c.args.at in
    let j = c.run_end-end.result in
    let kind = c.in_ok-kind.kind in
    let moves = c.run_end-end.ensures.run.stand.ends in
    let some : i < j = omega arith in
    let run : IsRun c.args.bytes.now kind i j = record { run = c.run_end-end.ensures; some = some; is = c.in_ok-kind.ensures } in
    rw c.found.ensures (record { starts = refl; stands = token_of_run c.args.bytes.now kind i j run })
