use Rattle.std.proofs.Common.{◌≡◌, ◌<◌, ◌≤◌, length, ap, sym, subst, arith}
use Rattle.std.proofs.lemmas.List.{length_push}
use Rattle.dl_join.specs.Disjuncts.{AreSorted}
use Rattle.dl_answer.specs.Kept.{AreFirst}
use Rattle.dl_answer.proofs.KeptLemmas.{first_front, first_last, sorted_front, sorted_last}
use Rattle.dl_answer.proofs.kept.keep_all.Goals as goal

pub bounds-probes-len : goal.bounds-probes-len
bounds-probes-len c =
    omega (arith, c.len.ensures, ap length c.in-Some.ensures.items, length_push c.pop.new.self.items c.in-Some.pairs, c.loop-pairs.invariant.few)

pub loop-pairs-init : goal.loop-pairs-init
loop-pairs-init c = record {
  few = subst (λ l. length l ≤ length c.args.probes.now) (sym c.into_vec-rest.ensures) c.requires.few;
  sorted = subst AreSorted (sym c.into_vec-rest.ensures) c.requires.sorted;
  kept = λ axioms facts kept first. kept;
  left = λ axioms facts first. first;
}

pub keep-requires : goal.keep-requires
keep-requires c =
    sorted_last c.loop-pairs.rest.items c.pop.new.self.items c.in-Some.pairs c.in-Some.ensures.items
    c.loop-pairs.invariant.sorted

pub loop-pairs-preserved : goal.loop-pairs-preserved
loop-pairs-preserved c =
    let popped = c.in-Some.ensures.items in
    let here : c.len.result ≡ length c.pop.new.self.items = omega (arith, c.len.ensures) in
    let inside : c.len.result < length c.args.probes.now =
    omega (arith, c.len.ensures, ap length popped, length_push c.pop.new.self.items c.in-Some.pairs, c.loop-pairs.invariant.few) in record {
      few = omega (arith, ap length popped, length_push c.pop.new.self.items c.in-Some.pairs, c.loop-pairs.invariant.few);
      sorted = sorted_front c.loop-pairs.rest.items c.pop.new.self.items c.in-Some.pairs popped c.loop-pairs.invariant.sorted;
      kept = λ axioms facts kept first.
          c.keep.ensures axioms facts (c.loop-pairs.invariant.kept axioms facts kept first)
          (first_last axioms facts c.args.probes.now c.loop-pairs.rest.items c.pop.new.self.items c.in-Some.pairs popped
          (c.loop-pairs.invariant.left axioms facts first) c.len.result c.index-probes-len.result here inside c.index-probes-len.is);
      left = λ axioms facts first.
          first_front axioms facts c.args.probes.now c.loop-pairs.rest.items c.pop.new.self.items c.in-Some.pairs popped
          (c.loop-pairs.invariant.left axioms facts first);
    }

pub returns-in_err-keep : goal.returns-in_err-keep
returns-in_err-keep c = λ axioms facts kept lists.
    let popped = c.in-Some.ensures.items in
    let here : c.len.result ≡ length c.pop.new.self.items = omega (arith, c.len.ensures) in
    let inside : c.len.result < length c.args.probes.now =
    omega (arith, c.len.ensures, ap length popped, length_push c.pop.new.self.items c.in-Some.pairs, c.loop-pairs.invariant.few) in
    let first = subst (AreFirst axioms facts c.args.probes.now) (sym c.into_vec-rest.ensures) lists in
    c.keep.ensures axioms facts (c.loop-pairs.invariant.kept axioms facts kept first)
    (first_last axioms facts c.args.probes.now c.loop-pairs.rest.items c.pop.new.self.items c.in-Some.pairs popped
    (c.loop-pairs.invariant.left axioms facts first) c.len.result c.index-probes-len.result here inside c.index-probes-len.is)

pub returns : goal.returns
returns c = λ axioms facts kept first.
    c.loop-pairs.invariant.kept axioms facts kept (subst (AreFirst axioms facts c.args.probes.now) (sym c.into_vec-rest.ensures) first)
