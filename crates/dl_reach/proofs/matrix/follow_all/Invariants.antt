use Rattle.std.proofs.Common.{take}
use Rattle.dl_reach.proofs.Closing.{Followed}
use Rattle.dl_reach.proofs.matrix.follow_all.Given as goal

abbrev pub invariant-loop-pair : goal.invariant-loop-pair
invariant-loop-pair l = Followed l.width l.initial.words l.words (take l.pair-index l.pairs) l.changed
