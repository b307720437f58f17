use Rattle.std.proofs.Common.{◌≡◌, [], replicate}
use Rattle.dl_core.proofs.new_rows.empty_parts.Given as goal

abbrev pub invariant-loop-count : goal.invariant-loop-count
invariant-loop-count l = l.parts ≡ replicate l.count-index []
