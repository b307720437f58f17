use Rattle.std.proofs.Common.{◌<◌, length, get_or, sym, subst, ◌∙◌, true≢false}
use Rattle.std.specs.List.Sorted.{IsStrictlyIncreasing}
use Rattle.dl_terms.proofs.MemberLemmas.{All-Contains}
use Rattle.dl_numbers.proofs.LowestLemmas.{search_start, search_step, search_end, step_fewer, left_within}
use Rattle.dl_numbers.proofs.classes.first_lowest.Goals as goal

pub loop-alloc-init : goal.loop-alloc-init
loop-alloc-init c = search_start c.args.order.now c.args.above.now c.requires.ascending c.one_lowest-first.result c.one_lowest-first.ensures.0
    c.one_lowest-first.ensures.1 c.in_ok-left.left.items c.in_ok-left.ensures

pub one_lowest-lowest-requires-clause-within : goal.one_lowest-lowest-requires-clause-within
one_lowest-lowest-requires-clause-within c = left_within c.args.order.now c.args.above.now c.requires.within c.loop-alloc.left.items
    c.deref-in-loop-alloc.result.now c.loop-alloc.first c.loop-alloc.invariant c.deref-in-loop-alloc.ensures.value

pub without-requires-in-loop-alloc-clause-within : goal.without-requires-in-loop-alloc-clause-within
without-requires-in-loop-alloc-clause-within c = left_within c.args.order.now c.args.above.now c.requires.within c.loop-alloc.left.items
    c.deref-in-loop-alloc-2.result.now c.loop-alloc.first c.loop-alloc.invariant c.deref-in-loop-alloc-2.ensures.value

pub without-requires-in-loop-alloc-clause-ascending : goal.without-requires-in-loop-alloc-clause-ascending
without-requires-in-loop-alloc-clause-ascending c = subst IsStrictlyIncreasing (sym c.deref-in-loop-alloc-2.ensures.value) c.loop-alloc.invariant.part.ascending

pub without-requires-in-loop-alloc-clause-lowest : goal.without-requires-in-loop-alloc-clause-lowest
without-requires-in-loop-alloc-clause-lowest c = All-Contains (λ other. other < c.args.order.now.nodes) c.deref-in-loop-alloc.result.now c.one_lowest-lowest.result
    (left_within c.args.order.now c.args.above.now c.requires.within c.loop-alloc.left.items c.deref-in-loop-alloc.result.now c.loop-alloc.first
    c.loop-alloc.invariant c.deref-in-loop-alloc.ensures.value) c.one_lowest-lowest.ensures.0

pub loop-alloc-smaller : goal.loop-alloc-smaller
loop-alloc-smaller c = step_fewer c.args.order.now c.args.above.now c.loop-alloc.left.items c.deref-in-loop-alloc.result.now c.deref-in-loop-alloc-2.result.now
    c.loop-alloc.first c.loop-alloc.invariant c.deref-in-loop-alloc.ensures.value c.deref-in-loop-alloc-2.ensures.value c.one_lowest-lowest.result
    c.one_lowest-lowest.ensures c.in_ok-left-2.left.items c.in_ok-left-2.ensures

pub loop-alloc-preserved : goal.loop-alloc-preserved
loop-alloc-preserved c = search_step c.args.order.now c.args.above.now c.loop-alloc.left.items c.deref-in-loop-alloc.result.now c.deref-in-loop-alloc-2.result.now
    c.loop-alloc.first c.loop-alloc.invariant c.deref-in-loop-alloc.ensures.value c.deref-in-loop-alloc-2.ensures.value c.one_lowest-lowest.result
    c.one_lowest-lowest.ensures c.in_ok-left-2.left.items c.in_ok-left-2.ensures c.min-first.result c.min-first.ensures

pub returns : goal.returns
returns c = search_end c.args.order.now c.args.above.now c.loop-alloc.left.items c.loop-alloc.first c.loop-alloc.invariant
    (λ h. true≢false (sym (c.begins_before.ensures.1 (subst (λ xs. (0 < length xs) × (get_or xs 0 0 < c.loop-alloc.first)) (sym c.deref.ensures.value) h))
    ∙ c.loop-alloc-test.false))
