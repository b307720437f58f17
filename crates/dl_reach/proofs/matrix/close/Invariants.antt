use Rattle.std.proofs.Common.{◌*◌, ◌-◌, ◌^◌, length, sum}
use Rattle.dl_reach.specs.Matrix.{Extends}
use Rattle.dl_reach.proofs.matrix.close.Given as goal

abbrev pub invariant-loop : goal.invariant-loop
invariant-loop l = Extends l.width l.initial.words l.words

-- what the words lack to their largest sum
abbrev pub decreases-loop : goal.decreases-loop
decreases-loop l = length l.words * 2 ^ 64 - sum l.words
