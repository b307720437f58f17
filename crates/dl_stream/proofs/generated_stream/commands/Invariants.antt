use Rattle.std.proofs.Common.{◌≡◌, map, take}
use Rattle.dl_stream.specs.Steps.{command_of}
use Rattle.dl_stream.proofs.generated_stream.commands.Given as goal

abbrev pub invariant-loop-step : goal.invariant-loop-step
invariant-loop-step l = l.commands ≡ map (command_of l.size) (take l.step-index l.step-items)
