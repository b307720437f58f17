use Rattle.std.proofs.Common.{◌<◌, length, arith}
use Rattle.dl_join.proofs.JoinLemmas.{list_at, ascending_at, needs_skip_at, needs_push_at}
use Rattle.dl_join.proofs.joined.needs_of.Goals as goal
use Rattle.dl_join.proofs.joined.needs_of.Goals.{in-Some+in_ok-push, in_default}

pub need_of-requires-clause-ascending : goal.need_of-requires-clause-ascending
need_of-requires-clause-ascending c =
    let inside : c.loop-k.k < length c.args.lists.now = omega arith in
    ascending_at c.args.lists.now c.loop-k.k c.as_slice.result.now c.requires.ascending inside
    (list_at c.args.lists.now c.loop-k.k c.index-lists-k.result c.as_slice.result.now c.as_slice.ensures c.index-lists-k.is inside)

pub loop-k-preserved : goal.loop-k-preserved
loop-k-preserved c =
    let inside : c.loop-k.k < length c.args.lists.now = omega arith in
    let list = list_at c.args.lists.now c.loop-k.k c.index-lists-k.result c.as_slice.result.now c.as_slice.ensures c.index-lists-k.is inside in
    elim c.match-need_of.branch [
      | in-Some+in_ok-push w ↦ rw (w.needs-is, w.in_ok-push.ensures.items) (needs_push_at c.args.probes.now c.args.lists.now c.loop-k.needs.items c.loop-k.k c.index-probes-k.result
          c.as_slice.result.now _ c.loop-k-test.true c.index-probes-k.is list c.loop-k.invariant w.in-Some.ensures.some)
      | in_default w ↦ rw w.needs-is (needs_skip_at c.args.probes.now c.args.lists.now c.loop-k.needs.items c.loop-k.k c.index-probes-k.result c.loop-k-test.true
          c.index-probes-k.is c.loop-k.invariant w.in_default.ensures.none)
    ]
