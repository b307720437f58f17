use Rattle.dl_scan.proofs.EpochLemmas.{SiftsTo}
use Rattle.dl_scan.proofs.scan.push_epochs.Given as goal

abbrev pub invariant-loop-entry : goal.invariant-loop-entry
invariant-loop-entry g l = SiftsTo l.entries l.version l.shard l.below l.sieve l.entry-index l.initial.pairs l.pairs
