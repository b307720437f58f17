use Rattle.std.proofs.Common.{take}
use Rattle.dl_epoch.proofs.EpochLemmas.{Gathers}
use Rattle.dl_epoch.proofs.numbers.numbers_of.Given as goal

abbrev pub invariant-loop-name : goal.invariant-loop-name
invariant-loop-name l = Gathers l.numbering (take l.name-index l.members) l.numbers
