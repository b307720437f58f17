use Rattle.std.proofs.Common.{◌≡◌, ap, sym, subst, ◌∙◌, arith}
use Rattle.std.specs.List.Sorted.{IsSorted}
use Rattle.std.proofs.lemmas.Result.{IfOk-weaker}
use Rattle.dl_terms.specs.Sets.{IsSetOf}
use Rattle.dl_terms.specs.Order.{pair_cmp}
use Rattle.dl_scan.specs.Scans.{Scan}
use Rattle.dl_answer.specs.Sifted.{ArePairsSifted, ArePairsTaken}
use Rattle.dl_answer.proofs.ReaderLemmas.{no_fetch, one_fetch, more_fetched, facts_kept}
use Rattle.dl_answer.proofs.StepLemmas.{pairs_sorted}
use Rattle.dl_answer.proofs.TakenLemmas.{none_taken, shard_taken, all_taken}
use Rattle.dl_answer.proofs.pairs.scanned.Goals as goal

pub loop-shard-init : goal.loop-shard-init
loop-shard-init g c = record {
  fetched = no_fetch _ _;
  below = ap (λ (s : Scan). s.below) c.new-scan.ensures;
  version = ap (λ (s : Scan). s.version) c.new-scan.ensures;
  pairs = λ facts has. none_taken _ facts _ _ _ (ap (λ (s : Scan). s.pairs) c.new-scan.ensures);
}

pub loop-shard-preserved : goal.loop-shard-preserved
loop-shard-preserved g c =
    let fetched = more_fetched c.loop-shard.invariant.fetched
    (one_fetch _ _ _ _ c.loop-shard.shard c.fetch.ensures.fetch c.fetch.ensures.seen) in record {
      fetched = fetched;
      below = c.in_ok-take_sifted.ensures.below ∙ c.loop-shard.invariant.below;
      version = c.in_ok-take_sifted.ensures.version ∙ c.loop-shard.invariant.version;
      pairs = λ facts has.
          shard_taken (g.R.Reads.stands c.fetch.new.self) (g.R.Reads.reader c.fetch.new.self)
          (g.met.R.Reads.stands_for c.fetch.new.self) c.args.version c.loop-shard.shard (fetched.pin ∙ c.requires.pin)
          c.book.result.now c.book.ensures.book c.shard.result.now c.shard.ensures c.fetch.ensures.fetch.at facts
          (facts_kept (g.met.R.Reads.stands_for c.args.reads.now) fetched c.args.version c.requires.pin facts has)
          c.shards-shard-end.result c.args.below c.args.sieve.now c.loop-shard.scan c.take_sifted.new.self
          (fetched.shards ∙ sym c.shards-shard-end.ensures.count) c.loop-shard.invariant.below c.loop-shard.invariant.version
          c.in_ok-take_sifted.ensures (c.loop-shard.invariant.pairs facts has);
    }

pub returns-clause-sorted : goal.returns-clause-sorted
returns-clause-sorted g c =
    IfOk-weaker c.finish.result (λ pairs. IsSetOf pair_cmp pairs c.loop-shard.scan.pairs) (IsSorted pair_cmp)
    (λ pairs set. pairs_sorted pairs set.ascending) c.finish.ensures

pub returns-clause-pairs : goal.returns-clause-pairs
returns-clause-pairs g c = λ facts has.
    let shards = c.shards-shard-end.result in
    let below = c.args.below in
    let marks = c.args.sieve.now in
    let pairs = c.loop-shard.scan.pairs in
    let last : c.loop-shard.shard ≡ shards = omega arith in
    IfOk-weaker c.finish.result (λ set. IsSetOf pair_cmp set pairs) (ArePairsSifted facts below marks)
    (λ set is. all_taken shards facts below marks pairs set c.shards-shard-end.ensures.some
    (subst (λ i. ArePairsTaken shards i facts below marks pairs) last (c.loop-shard.invariant.pairs facts has)) is)
    c.finish.ensures
