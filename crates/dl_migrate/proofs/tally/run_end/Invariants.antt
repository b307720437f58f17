use Rattle.std.proofs.Common.{length, ◌-◌}
use Rattle.dl_migrate.specs.Runs.{CarryOne}
use Rattle.dl_migrate.proofs.tally.run_end.Given as goal

abbrev pub invariant-loop-to : goal.invariant-loop-to
invariant-loop-to l = CarryOne l.rows l.from l.to

abbrev pub decreases-loop-to : goal.decreases-loop-to
decreases-loop-to l = length l.rows - l.to
