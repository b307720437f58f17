use Rattle.std.proofs.Common.{length, ◌-◌}
use Rattle.dl_migrate.proofs.TallyLemmas.{Tallies}
use Rattle.dl_migrate.proofs.tally.tally_of.Given as goal

abbrev pub invariant-loop-from : goal.invariant-loop-from
invariant-loop-from l = Tallies l.rows l.from l.tally

abbrev pub decreases-loop-from : goal.decreases-loop-from
decreases-loop-from l = length l.rows - l.from
