use Rattle.std.proofs.Common.{◌≡◌, ◌+◌, drop}
use Rattle.dl_migrate.specs.Tallies.{listed}
use Rattle.dl_core.proofs.refilled.listed.Given as goal

abbrev pub invariant-loop-entry : goal.invariant-loop-entry
invariant-loop-entry l = l.rows + listed l.id (drop l.entry-index l.tally) ≡ listed l.id l.tally
