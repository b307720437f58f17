use Rattle.std.proofs.Common.{◌≡◌, ◌++◌, map, take, drop, slice_index}
use Rattle.dl_stream.specs.Commands.{renamed_command}
use Rattle.dl_stream.proofs.ranked.rank_commands.Given as goal

abbrev pub invariant-loop-command : goal.invariant-loop-command
invariant-loop-command l = l.commands ≡ map (renamed_command (slice_index l.ranks)) (take l.command-index l.fn.commands) ++ drop l.command-index l.fn.commands
