use Rattle.std.proofs.Common.{◌<◌, ◌≤◌, [], length, get_or, arith}
use Rattle.std.specs.List.{enumerate_from}
use Rattle.std.proofs.lemmas.List.FromFn.{length-enumerate_from}
use Rattle.dl_text.proofs.LineLemmas.{name_behind, name_next, names_printed, within_numbered}
use Rattle.dl_io.proofs.PrintLemmas.{prints_as, prints_none, prints_next, prints_next_failed, prints_whole}
use Rattle.dl_text.proofs.answers.put_names.Goals as goal

pub loop-column-init : goal.loop-column-init
loop-column-init g c = prints_none _

pub returns-in_err-print_pieces : goal.returns-in_err-print_pieces
returns-in_err-print_pieces g c =
    let tuple = get_or c.args.tuples.now.tuples c.args.row [] in
    let names = c.args.names.now in
    let column = c.loop-column.column in
    let inside : column < length tuple = omega (arith, c.loop-column-test.true, c.width-column-end.ensures.width, c.width-column-end.ensures.each c.args.row [] c.requires.row) in
    prints_as (names_printed names tuple)
    (prints_next_failed (name_behind names) (enumerate_from 0 tuple) column (0, 0) (within_numbered (name_behind names) 0 tuple column (0, 0) inside)
    c.from_residual.ensures.0 (name_next names tuple column c.name.result c.separator.result.now inside c.separator.ensures c.name.ensures)
    c.loop-column.invariant c.in_err-print_pieces.ensures)

pub loop-column-preserved : goal.loop-column-preserved
loop-column-preserved g c =
    let tuple = get_or c.args.tuples.now.tuples c.args.row [] in
    let names = c.args.names.now in
    let column = c.loop-column.column in
    let inside : column < length tuple = omega (arith, c.loop-column-test.true, c.width-column-end.ensures.width, c.width-column-end.ensures.each c.args.row [] c.requires.row) in
    prints_next (name_behind names) (enumerate_from 0 tuple) column (0, 0) (within_numbered (name_behind names) 0 tuple column (0, 0) inside)
    (name_next names tuple column c.name.result c.separator.result.now inside c.separator.ensures c.name.ensures)
    c.loop-column.invariant c.in_ok-print_pieces.ensures

pub returns : goal.returns
returns g c =
    let tuple = get_or c.args.tuples.now.tuples c.args.row [] in
    let names = c.args.names.now in
    let column = c.loop-column.column in
    let all : length (enumerate_from 0 tuple) ≤ column =
    omega (arith, length-enumerate_from 0 tuple, c.loop-column-test.false, c.width-column-end.ensures.width, c.width-column-end.ensures.each c.args.row [] c.requires.row) in
    prints_as (names_printed names tuple) (prints_whole (name_behind names) (enumerate_from 0 tuple) column all c.loop-column.invariant)
