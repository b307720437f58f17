use Rattle.std.proofs.Common.{refl}
use Rattle.std.proofs.lemmas.Result.{err_from_is_err_and, IfOk-weaker}
use Rattle.dl_join.specs.Disjuncts.{IsTuple}
use Rattle.dl_join.specs.Gathering.{Has}
use Rattle.dl_join.specs.Tuples.{AreExactly}
use Rattle.dl_join.specs.Searching.{IsGiven}
use Rattle.dl_join.proofs.GatherLemmas.{AreMoreThan-weaker}
use Rattle.dl_join.proofs.JoinLemmas.{lists_ascend, can_be_fitted, given_tuple, tuple_given, head_covered, gathered_exactly, nothing_exactly, over_tuples, over_gathered}
use Rattle.dl_join.proofs.joined.join.Goals as goal

pub some_fails-requires-clause-ascending : goal.some_fails-requires-clause-ascending
some_fails-requires-clause-ascending c = lists_ascend c.args.lists.now c.requires.sorted

pub needs_of-requires-clause-ascending : goal.needs_of-requires-clause-ascending
needs_of-requires-clause-ascending c = lists_ascend c.args.lists.now c.requires.sorted

pub returns-then-some_fails-clause-tuples : goal.returns-then-some_fails-clause-tuples
returns-then-some_fails-clause-tuples c =
    let d = c.args.disjunct.now in
    let fails = rw c.as_slice-probes.ensures at c.if-some_fails.ensures.fails refl in
    IfOk-weaker c.finish.result (λ all. AreExactly (Has c.new-gathered.result) all.tuples) (λ all. AreExactly (IsTuple d c.args.lists.now) all.tuples)
    (λ all is. nothing_exactly (IsTuple d c.args.lists.now) c.new-gathered.result all.tuples c.new-gathered.ensures.none is (λ t tuple. fails tuple.names tuple.probes)) c.finish.ensures.tuples

pub returns-then-some_fails-clause-many : goal.returns-then-some_fails-clause-many
returns-then-some_fails-clause-many c = λ e.
    rw (← c.new-gathered.ensures.limit) (AreMoreThan-weaker c.new-gathered.result.limit (Has c.new-gathered.result) (IsTuple c.args.disjunct.now c.args.lists.now)
    (λ t h. absurd (c.new-gathered.ensures.none t h)) (c.finish.ensures.many e))

pub reduced-requires-clause-needs : goal.reduced-requires-clause-needs
reduced-requires-clause-needs c =
    rw c.as_slice-2.ensures.value (can_be_fitted c.as_slice-probes.result.now c.args.lists.now c.in_ok-needs.needs.items c.in_ok-needs.ensures)

pub reduced-requires-clause-covered : goal.reduced-requires-clause-covered
reduced-requires-clause-covered c =
    let are = rw c.as_slice-probes.ensures at c.in_ok-needs.ensures in
    rw (c.as_slice-2.ensures.value, c.as_slice-head.ensures)
    (head_covered c.args.disjunct.now c.args.lists.now c.in_ok-needs.needs.items are c.requires.safe)

pub returns-in_err-reduced-clause-many : goal.returns-in_err-reduced-clause-many
returns-in_err-reduced-clause-many c = λ er.
    let d = c.args.disjunct.now in
    let lists = c.args.lists.now in
    let needs = c.in_ok-needs.needs.items in
    let are = rw c.as_slice-probes.ensures at c.in_ok-needs.ensures in
    let holds = rw c.as_slice-probes.ensures at c.if-some_fails.ensures.holds refl in
    let p = err_from_is_err_and c.from_residual-in_err-reduced.result c.from_residual-in_err-reduced.ensures.1 in
    over_tuples (IsGiven needs d.head) (IsTuple d lists) c.new-gathered.result c.args.limit c.new-gathered.ensures.limit c.new-gathered.ensures.none
    (given_tuple d lists needs are (λ names k probe lt closed. holds k probe lt closed names))
    (rw (c.as_slice-2.ensures.value, c.as_slice-head.ensures) at c.in_err-reduced.ensures.many (cc (p.1, p.2, er)))

pub returns-clause-tuples : goal.returns-clause-tuples
returns-clause-tuples c =
    let d = c.args.disjunct.now in
    let lists = c.args.lists.now in
    let needs = c.in_ok-needs.needs.items in
    let are = rw c.as_slice-probes.ensures at c.in_ok-needs.ensures in
    let holds = rw c.as_slice-probes.ensures at c.if-some_fails.ensures.holds refl in
    let gathers = rw (c.as_slice-2.ensures.value, c.as_slice-head.ensures) at c.in_ok-reduced.ensures.ok in
    IfOk-weaker c.finish-2.result (λ all. AreExactly (Has c.reduced.new.gathered) all.tuples) (λ all. AreExactly (IsTuple d lists) all.tuples)
    (λ all is. gathered_exactly (IsGiven needs d.head) (IsTuple d lists) c.new-gathered.result c.reduced.new.gathered all.tuples c.new-gathered.ensures.none gathers is
    (given_tuple d lists needs are (λ names k probe lt closed. holds k probe lt closed names))
    (tuple_given d lists needs are))
    c.finish-2.ensures.tuples

pub returns-clause-many : goal.returns-clause-many
returns-clause-many c = λ e.
    let d = c.args.disjunct.now in
    let lists = c.args.lists.now in
    let needs = c.in_ok-needs.needs.items in
    let are = rw c.as_slice-probes.ensures at c.in_ok-needs.ensures in
    let holds = rw c.as_slice-probes.ensures at c.if-some_fails.ensures.holds refl in
    let gathers = rw (c.as_slice-2.ensures.value, c.as_slice-head.ensures) at c.in_ok-reduced.ensures.ok in
    over_gathered (IsGiven needs d.head) (IsTuple d lists) c.new-gathered.result c.reduced.new.gathered c.args.limit c.new-gathered.ensures.limit c.new-gathered.ensures.none
    (given_tuple d lists needs are (λ names k probe lt closed. holds k probe lt closed names)) gathers (c.finish-2.ensures.many e)
