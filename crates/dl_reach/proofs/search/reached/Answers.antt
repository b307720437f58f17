use Rattle.std.proofs.Common.{◌≡◌, arith, rules, length, drop}
use Rattle.std.proofs.lemmas.List.{take_at}
use Rattle.dl_reach.proofs.Searching.{Searched-start, Searched-more, Searched-end, leaving_below}
use Rattle.dl_reach.proofs.search.reached.Goals as goal

pub loop-next-init : goal.loop-next-init
loop-next-init c =
    let long : length c.mark.new.seen ≡ c.in_ok-seen.seen.len = omega (arith, c.mark.auto.seen, c.deref_mut.ensures.len, c.in_ok-seen.seen.ok.0) in
    rw (take_at c.mark.new.seen (drop (length c.mark.new.seen) c.in_ok-seen.seen.items) c.in_ok-seen.seen.len long) (Searched-start c.args.nodes c.args.edges.now c.args.from c.deref_mut.result.now c.mark.new.seen c.mark.new.found.items (search rules) (search rules) (search rules))

pub mark_ends-requires-clause-ends : goal.mark_ends-requires-clause-ends
mark_ends-requires-clause-ends c =
    let same : length c.deref_mut-in-loop-next.result.now ≡ c.args.nodes = omega (arith, c.deref_mut-in-loop-next.ensures.len, c.loop-next.seen.ok.0, c.loop-next.invariant.len) in
    rw same (leaving_below c.args.nodes c.args.edges.now c.edges_from.result.now c.index.result.now c.requires.ends c.edges_from.ensures)

pub loop-next-preserved : goal.loop-next-preserved
loop-next-preserved c =
    let long : length c.mark_ends.new.seen ≡ c.loop-next.seen.len = omega (arith, c.mark_ends.auto.seen, c.deref_mut-in-loop-next.ensures.len, c.loop-next.seen.ok.0) in
    rw (take_at c.mark_ends.new.seen (drop (length c.mark_ends.new.seen) c.loop-next.seen.items) c.loop-next.seen.len long) (Searched-more c.args.nodes c.args.edges.now c.args.from c.loop-next.seen.items c.mark_ends.new.seen c.loop-next.found.items c.mark_ends.new.found.items c.loop-next.next c.index.result.now c.edges_from.result.now c.loop-next.invariant (omega arith) c.index.ensures c.edges_from.ensures (rw c.deref_mut-in-loop-next.ensures.value at c.in_ok-mark_ends.ensures) (omega (arith, long, c.loop-next.seen.ok.0)))

pub returns-clause-exact : goal.returns-clause-exact
returns-clause-exact c = Searched-end c.args.nodes c.args.edges.now c.args.from _ _ _ c.loop-next.invariant (omega arith)
