use Rattle.std.specs.Fmt.{decimal}
use Rattle.dl_stream.proofs.StreamTextLemmas.{rows_printed}
use Rattle.dl_io.proofs.PrintLemmas.{prints_as}
use Rattle.dl_stream.proofs.stream_text.put_rows.Goals as goal

pub returns : goal.returns
returns g c = prints_as (rows_printed c.args.word.now (decimal c.args.shard) (decimal c.args.n)) c.print_pieces.ensures
