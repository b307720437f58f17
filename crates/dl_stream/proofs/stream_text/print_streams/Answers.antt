use Rattle.std.proofs.Common.{length, sym, subst}
use Rattle.std.specs.List.{All}
use Rattle.dl_stream.specs.Commands.{CommandBelow}
use Rattle.dl_stream.proofs.stream_text.print_streams.Goals as goal

pub put_streams-requires : goal.put_streams-requires
put_streams-requires c =
    subst (All (All (CommandBelow (length c.args.names.now)))) (sym c.as_slice.ensures) c.requires
