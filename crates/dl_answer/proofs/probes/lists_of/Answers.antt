use Rattle.std.proofs.Common.{ap, length, sym, subst, ◌∙◌, arith}
use Rattle.std.proofs.lemmas.List.{length_push}
use Rattle.dl_join.specs.Disjuncts.{AreSorted}
use Rattle.dl_answer.proofs.ListLemmas.{no_lists, more_lists}
use Rattle.dl_answer.proofs.ReaderLemmas.{goes_nowhere, goes_further}
use Rattle.dl_answer.proofs.probes.lists_of.Goals as goal

pub loop-probe-init : goal.loop-probe-init
loop-probe-init g c = record {
  count = ap length c.new-lists.ensures;
  lists = no_lists _ c.args.probes.now c.new-lists.result c.new-lists.ensures;
  goes = goes_nowhere _ _ _ _ _;
}

pub loop-probe-preserved : goal.loop-probe-preserved
loop-probe-preserved g c = record {
  count = omega (arith, ap length c.in_ok-push.ensures.ok, length_push c.loop-probe.lists c.in_ok-pairs.pairs, c.loop-probe.invariant.count);
  lists = more_lists _ _ c.args.probes.now c.loop-probe.probe-index c.probe-item.result c.loop-probe.lists c.as_slice.result.now
      c.push.new.self c.in_ok-pairs.pairs c.loop-probe-test.true c.probe-item.is c.loop-probe.invariant.count
      c.as_slice.ensures c.in_ok-push.ensures.ok c.loop-probe.invariant.goes.stays c.loop-probe.invariant.lists
      c.in_ok-pairs.ensures.list;
  goes = goes_further c.loop-probe.invariant.goes c.in_ok-pairs.ensures.goes;
}

pub shared_list-requires-clause-sorted : goal.shared_list-requires-clause-sorted
shared_list-requires-clause-sorted g c = subst AreSorted (sym c.as_slice.ensures) c.loop-probe.invariant.lists.sorted

pub shared_list-requires-clause-pin : goal.shared_list-requires-clause-pin
shared_list-requires-clause-pin g c = c.loop-probe.invariant.goes.fetched.pin ∙ c.requires.pin

pub returns-in_err-pairs-clause-goes : goal.returns-in_err-pairs-clause-goes
returns-in_err-pairs-clause-goes g c = goes_further c.loop-probe.invariant.goes c.in_err-pairs.ensures.goes

pub returns-in_err-push-clause-goes : goal.returns-in_err-push-clause-goes
returns-in_err-push-clause-goes g c = goes_further c.loop-probe.invariant.goes c.in_ok-pairs.ensures.goes

pub returns-then-none-clause-goes : goal.returns-then-none-clause-goes
returns-then-none-clause-goes g c = goes_further c.loop-probe.invariant.goes c.in_ok-pairs.ensures.goes

pub returns-then-none-clause-lists : goal.returns-then-none-clause-lists
returns-then-none-clause-lists g c =
    more_lists _ _ c.args.probes.now c.loop-probe.probe-index c.probe-item.result c.loop-probe.lists c.as_slice.result.now
    c.push.new.self c.in_ok-pairs.pairs c.loop-probe-test.true c.probe-item.is c.loop-probe.invariant.count
    c.as_slice.ensures c.in_ok-push.ensures.ok c.loop-probe.invariant.goes.stays c.loop-probe.invariant.lists
    c.in_ok-pairs.ensures.list
