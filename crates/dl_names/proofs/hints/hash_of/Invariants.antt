use Rattle.std.proofs.Common.{length}
use Rattle.dl_names.proofs.hints.hash_of.Given as goal

abbrev pub decreases-loop-piece : goal.decreases-loop-piece
decreases-loop-piece l = length l.rest
