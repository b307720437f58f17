-- The commands of the generated stream one by one, for private functions.
use Rattle.std.specs.Prelude.{ℕ}
use Rattle.dl_event.specs.declared.event.Event.TheVariants as event
use Rattle.dl_stream.specs.declared.generated_stream.Step.{Step}
use Rattle.dl_stream.specs.declared.generated_stream.Step.TheVariants.{Pin, Unpin, Ask, Commit, Migrate, Sweep, Reclaim}
use Rattle.dl_stream.specs.declared.streams.Command.{Command}
use Rattle.dl_stream.specs.declared.streams.Command.TheVariants as command
use Rattle.dl_stream.specs.Generator.{ask, generated_edits, migrate, sweep}

-- a step of the stream as a command
abbrev pub command_of : ℕ → Step → Command
command_of size Pin = command.Put event.Pin
command_of size Unpin = command.Put event.Unpin
command_of size Ask = ask size
command_of size Commit = command.Put (event.Commit generated_edits)
command_of size (Migrate shard) = migrate size shard
command_of size (Sweep shard) = sweep size shard
command_of size Reclaim = command.Put event.Reclaim
