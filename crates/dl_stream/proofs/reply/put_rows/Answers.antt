use Rattle.std.proofs.Common.{length, refl}
use Rattle.dl_text.proofs.TextLemmas.{below_each}
use Rattle.dl_stream.specs.Lines.{row_line, individuals}
use Rattle.dl_io.proofs.PrintLemmas.{prints_none, prints_next, prints_next_failed, prints_whole}
use Rattle.dl_stream.proofs.reply.put_rows.Goals as goal

pub loop-row-init : goal.loop-row-init
loop-row-init g c = prints_none _

pub returns-in_err-put_row : goal.returns-in_err-put_row
returns-in_err-put_row g c =
    prints_next_failed (row_line c.args.names.now c.args.current) c.args.rows.now c.loop-row.row-index _ c.loop-row-test.true c.from_residual.ensures.0 refl c.loop-row.invariant c.in_err-put_row.ensures

pub loop-row-preserved : goal.loop-row-preserved
loop-row-preserved g c =
    prints_next (row_line c.args.names.now c.args.current) c.args.rows.now c.loop-row.row-index _ c.loop-row-test.true refl c.loop-row.invariant c.in_ok-put_row.ensures

pub returns : goal.returns
returns g c = prints_whole (row_line c.args.names.now c.args.current) c.args.rows.now c.loop-row.row-index c.loop-row-test.false c.loop-row.invariant

pub put_row-requires : goal.put_row-requires
put_row-requires g c =
    below_each (length c.args.names.now) individuals c.args.rows.now c.requires c.loop-row.row-index _ c.loop-row-test.true
