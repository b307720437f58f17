use Rattle.std.proofs.Common.{codes}
use Rattle.std.specs.Fmt.{decimal}
use Rattle.dl_text.specs.QueryText.{query_text}
use Rattle.dl_stream.proofs.StreamTextLemmas.{ask_printed}
use Rattle.dl_io.proofs.PrintLemmas.{prints_as, prints_failed, prints_then}
use Rattle.dl_stream.proofs.stream_text.put_ask.Goals as goal

pub returns-in_err-print_pieces : goal.returns-in_err-print_pieces
returns-in_err-print_pieces g c =
    prints_as (ask_printed (codes "ask ") (decimal c.args.limit) (query_text c.args.names.now c.args.query.now))
    (prints_failed _ c.from_residual.ensures.0 c.in_err-print_pieces.ensures)

pub returns-in_err-print_query : goal.returns-in_err-print_query
returns-in_err-print_query g c =
    prints_as (ask_printed (codes "ask ") (decimal c.args.limit) (query_text c.args.names.now c.args.query.now))
    (prints_then c.in_ok-print_pieces.ensures (prints_failed _ c.from_residual-in_err-print_query.ensures.0 c.in_err-print_query.ensures))

pub returns : goal.returns
returns g c =
    prints_as (ask_printed (codes "ask ") (decimal c.args.limit) (query_text c.args.names.now c.args.query.now))
    (prints_then c.in_ok-print_pieces.ensures (prints_then c.in_ok-print_query.ensures c.print_pieces-2.ensures))
