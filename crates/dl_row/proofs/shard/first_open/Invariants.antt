use Rattle.dl_row.proofs.FindLemmas.{NoneBefore}
use Rattle.dl_row.proofs.shard.first_open.Given as goal

abbrev pub invariant-loop-i : goal.invariant-loop-i
invariant-loop-i l = NoneBefore l.like.epoch l.like.kind l.like.number l.like.s l.like.o l.rows l.i
