use Rattle.std.proofs.Common.{◌≡◌, take}
use Rattle.dl_join.proofs.gather.batch_of.Given as goal

abbrev pub invariant-loop-tuple : goal.invariant-loop-tuple
invariant-loop-tuple l = record {
  width : l.batch.width ≡ l.width;
  tuples : l.batch.tuples ≡ take l.tuple-index l.tuple-items;
}
