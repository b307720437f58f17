use Rattle.std.proofs.Common.{arith}
use Rattle.std.specs.List.{enumerate_from}
use Rattle.std.proofs.lemmas.List.FromFn.{length-enumerate_from}
use Rattle.dl_io.proofs.PrintLemmas.{prints_as, prints_none, prints_next, prints_next_failed, prints_whole}
use Rattle.dl_text.specs.QueryText.{variable_text}
use Rattle.dl_text.proofs.LineLemmas.{item_behind, items_printed, within_numbered, variable_next}
use Rattle.dl_text.proofs.queries.put_variables.Goals as goal

pub loop-i-init : goal.loop-i-init
loop-i-init g c = prints_none _

pub returns-in_err-print_pieces : goal.returns-in_err-print_pieces
returns-in_err-print_pieces g c =
    let variables = c.args.variables.now in
    prints_as (items_printed variable_text variables)
    (prints_next_failed (item_behind variable_text) (enumerate_from 0 variables) c.loop-i.i (0, 0) (within_numbered (item_behind variable_text) 0 variables c.loop-i.i (0, 0) c.loop-i-test.true)
    c.from_residual.ensures.0 (variable_next variables c.loop-i.i c.separator.result.now c.loop-i-test.true c.separator.ensures) c.loop-i.invariant c.in_err-print_pieces.ensures)

pub loop-i-preserved : goal.loop-i-preserved
loop-i-preserved g c =
    let variables = c.args.variables.now in
    prints_next (item_behind variable_text) (enumerate_from 0 variables) c.loop-i.i (0, 0) (within_numbered (item_behind variable_text) 0 variables c.loop-i.i (0, 0) c.loop-i-test.true)
    (variable_next variables c.loop-i.i c.separator.result.now c.loop-i-test.true c.separator.ensures) c.loop-i.invariant c.in_ok-print_pieces.ensures

pub returns : goal.returns
returns g c =
    let variables = c.args.variables.now in
    prints_as (items_printed variable_text variables)
    (prints_whole (item_behind variable_text) (enumerate_from 0 variables) c.loop-i.i (omega (arith, length-enumerate_from 0 variables, c.loop-i-test.false)) c.loop-i.invariant)
