use Rattle.dl_stream.specs.StreamText.{item_text}
use Rattle.dl_stream.proofs.StreamTextLemmas.{line_printed}
use Rattle.dl_io.proofs.PrintLemmas.{prints_as, prints_failed, prints_then}
use Rattle.dl_stream.proofs.stream_text.put_edit.Goals as goal

pub returns-in_err-print_pieces : goal.returns-in_err-print_pieces
returns-in_err-print_pieces g c =
    prints_as (line_printed c.sign.result.now _ (item_text c.args.names.now c.args.edit.now.item) c.sign.ensures) (prints_failed _ c.from_residual.ensures.0 c.in_err-print_pieces.ensures)

pub returns-in_err-put_item : goal.returns-in_err-put_item
returns-in_err-put_item g c =
    prints_as (line_printed c.sign.result.now _ (item_text c.args.names.now c.args.edit.now.item) c.sign.ensures)
    (prints_then c.in_ok-print_pieces.ensures (prints_failed _ c.from_residual-in_err-put_item.ensures.0 c.in_err-put_item.ensures))

pub returns : goal.returns
returns g c =
    prints_as (line_printed c.sign.result.now _ (item_text c.args.names.now c.args.edit.now.item) c.sign.ensures)
    (prints_then c.in_ok-print_pieces.ensures (prints_then c.in_ok-put_item.ensures c.print_pieces-2.ensures))
