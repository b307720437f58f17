use Rattle.std.proofs.Common.{◌≡◌, ◌++◌, map, take, drop, slice_index}
use Rattle.dl_stream.specs.Commands.{renamed_command}
use Rattle.dl_stream.proofs.ranked.rank_streams.Given as goal

abbrev pub invariant-loop-commands : goal.invariant-loop-commands
invariant-loop-commands l = l.streams ≡ map (map (renamed_command (slice_index l.ranks))) (take l.commands-index l.fn.streams) ++ drop l.commands-index l.fn.streams
