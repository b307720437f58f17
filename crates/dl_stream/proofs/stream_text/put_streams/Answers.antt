use Rattle.std.proofs.Common.{ap, ◌∙◌}
use Rattle.dl_stream.specs.StreamText.{stream_text}
use Rattle.dl_io.proofs.PrintLemmas.{prints_none, prints_next, prints_next_failed, prints_whole}
use Rattle.dl_stream.proofs.stream_text.put_streams.Goals as goal

pub loop-commands-init : goal.loop-commands-init
loop-commands-init g c = prints_none _

pub returns-in_err-put_stream : goal.returns-in_err-put_stream
returns-in_err-put_stream g c =
    prints_next_failed (stream_text c.args.names.now) c.args.streams.now c.loop-commands.commands-index _ c.loop-commands-test.true c.from_residual.ensures.0 (ap (stream_text c.args.names.now) (c.as_slice.ensures ∙ c.commands-item.is)) c.loop-commands.invariant c.in_err-put_stream.ensures

pub loop-commands-preserved : goal.loop-commands-preserved
loop-commands-preserved g c =
    prints_next (stream_text c.args.names.now) c.args.streams.now c.loop-commands.commands-index _ c.loop-commands-test.true (ap (stream_text c.args.names.now) (c.as_slice.ensures ∙ c.commands-item.is)) c.loop-commands.invariant c.in_ok-put_stream.ensures

pub returns : goal.returns
returns g c = prints_whole (stream_text c.args.names.now) c.args.streams.now c.loop-commands.commands-index c.loop-commands-test.false c.loop-commands.invariant
