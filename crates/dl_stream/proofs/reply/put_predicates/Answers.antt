use Rattle.std.proofs.Common.{arith}
use Rattle.std.specs.List.{enumerate_from}
use Rattle.std.proofs.lemmas.List.FromFn.{length-enumerate_from}
use Rattle.dl_stream.proofs.LineLemmas.{numbered_line, line_next}
use Rattle.dl_text.proofs.LineLemmas.{within_numbered}
use Rattle.dl_io.proofs.PrintLemmas.{prints_none, prints_next, prints_next_failed, prints_whole}
use Rattle.dl_stream.proofs.reply.put_predicates.Goals as goal

pub loop-i-init : goal.loop-i-init
loop-i-init g c = prints_none _

pub returns-in_err-print_pieces : goal.returns-in_err-print_pieces
returns-in_err-print_pieces g c =
    let line = numbered_line c.args.names.now c.args.word.now in
    let predicates = c.args.predicates.now in
    prints_next_failed line (enumerate_from 1 predicates) c.loop-i.i (0, 0) (within_numbered line 1 predicates c.loop-i.i (0, 0) c.loop-i-test.true)
    c.from_residual.ensures.0 (line_next c.args.names.now c.args.word.now predicates c.loop-i.i c.loop-i-test.true) c.loop-i.invariant c.in_err-print_pieces.ensures

pub loop-i-preserved : goal.loop-i-preserved
loop-i-preserved g c =
    let line = numbered_line c.args.names.now c.args.word.now in
    let predicates = c.args.predicates.now in
    prints_next line (enumerate_from 1 predicates) c.loop-i.i (0, 0) (within_numbered line 1 predicates c.loop-i.i (0, 0) c.loop-i-test.true)
    (line_next c.args.names.now c.args.word.now predicates c.loop-i.i c.loop-i-test.true) c.loop-i.invariant c.in_ok-print_pieces.ensures

pub returns : goal.returns
returns g c =
    let predicates = c.args.predicates.now in
    prints_whole (numbered_line c.args.names.now c.args.word.now) (enumerate_from 1 predicates) c.loop-i.i (omega (arith, length-enumerate_from 1 predicates, c.loop-i-test.false)) c.loop-i.invariant
