use Rattle.std.proofs.Common.{◌≡◌, ◌+◌, ◌^◌}
use Rattle.dl_tree.proofs.table.last_of.Given as goal

abbrev pub invariant-loop : goal.invariant-loop
invariant-loop l = l.last + 1 ≡ 2 ^ l.counter
