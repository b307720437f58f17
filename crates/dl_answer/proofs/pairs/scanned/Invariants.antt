use Rattle.std.proofs.Common.{◌≡◌, List as Items}
use Rattle.dl_terms.specs.declared.axiom.Fact.{Fact}
use Rattle.dl_answer.specs.Readers.{HasFacts, HasFetched}
use Rattle.dl_answer.specs.Sifted.{ArePairsTaken}
use Rattle.dl_answer.proofs.pairs.scanned.Given as goal

abbrev pub invariant-loop-shard : goal.invariant-loop-shard
invariant-loop-shard g l = record {
  fetched : HasFetched (g.R.Reads.stands l.initial.reads) (g.R.Reads.reader l.initial.reads) (g.R.Reads.stands l.reads)
      (g.R.Reads.reader l.reads);
  below : l.scan.below ≡ l.fn.below;
  version : l.scan.version ≡ l.version;
  pairs : (facts : Items Fact) → HasFacts (g.R.Reads.stands l.initial.reads) l.version facts
      → ArePairsTaken l.shard-end l.shard facts l.fn.below l.sieve l.scan.pairs;
}
