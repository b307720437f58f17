use Rattle.std.proofs.Common.{◌≡◌, ◌^◌}
use Rattle.dl_rewrite.proofs.rewriting.set_count.Given as goal

abbrev pub invariant-loop : goal.invariant-loop
invariant-loop l = l.sets ≡ 2 ^ l.counter
