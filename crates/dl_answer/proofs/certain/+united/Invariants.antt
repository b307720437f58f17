use Rattle.std.proofs.Common.{length}
use Rattle.dl_answer.proofs.certain.+united.Given as goal

abbrev pub decreases-united : goal.decreases-united
decreases-united g l = length l.disjuncts.now
