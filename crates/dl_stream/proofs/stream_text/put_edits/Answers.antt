use Rattle.std.proofs.Common.{ap}
use Rattle.dl_stream.specs.StreamText.{line_of, edit_text}
use Rattle.dl_io.proofs.PrintLemmas.{prints_none, prints_next, prints_next_failed, prints_whole}
use Rattle.dl_stream.proofs.stream_text.put_edits.Goals as goal

pub loop-edit-init : goal.loop-edit-init
loop-edit-init g c = prints_none _

pub returns-in_err-put_edit : goal.returns-in_err-put_edit
returns-in_err-put_edit g c =
    prints_next_failed (λ edit. line_of (edit_text c.args.names.now edit)) c.args.edits.now c.loop-edit.edit-index _ c.loop-edit-test.true c.from_residual.ensures.0 (ap (λ edit. line_of (edit_text c.args.names.now edit)) c.edit-item.is) c.loop-edit.invariant c.in_err-put_edit.ensures

pub loop-edit-preserved : goal.loop-edit-preserved
loop-edit-preserved g c =
    prints_next (λ edit. line_of (edit_text c.args.names.now edit)) c.args.edits.now c.loop-edit.edit-index _ c.loop-edit-test.true (ap (λ edit. line_of (edit_text c.args.names.now edit)) c.edit-item.is) c.loop-edit.invariant c.in_ok-put_edit.ensures

pub returns : goal.returns
returns g c = prints_whole (λ edit. line_of (edit_text c.args.names.now edit)) c.args.edits.now c.loop-edit.edit-index c.loop-edit-test.false c.loop-edit.invariant
