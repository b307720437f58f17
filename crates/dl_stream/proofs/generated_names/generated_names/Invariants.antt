use Rattle.std.proofs.Common.{◌≡◌, map}
use Rattle.std.specs.List.{range_with_len}
use Rattle.dl_stream.specs.Generator.{name_text}
use Rattle.dl_stream.proofs.generated_names.generated_names.Given as goal

abbrev pub invariant-loop-n : goal.invariant-loop-n
invariant-loop-n l = l.set ≡ map (name_text l.size) (range_with_len 0 l.n)
