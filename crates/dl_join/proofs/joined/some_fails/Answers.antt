use Rattle.std.proofs.Common.{◌<◌, length, refl, arith}
use Rattle.dl_join.proofs.JoinLemmas.{list_at, ascending_at, holds_at, closed_more}
use Rattle.dl_join.proofs.joined.some_fails.Goals as goal

pub fails-requires : goal.fails-requires
fails-requires c =
    let inside : c.loop-k.k < length c.args.lists.now = omega arith in
    ascending_at c.args.lists.now c.loop-k.k c.as_slice.result.now c.requires.ascending inside
    (list_at c.args.lists.now c.loop-k.k c.index-lists-k.result c.as_slice.result.now c.as_slice.ensures c.index-lists-k.is inside)

pub returns-then-fails-clause-fails : goal.returns-then-fails-clause-fails
returns-then-fails-clause-fails c = λ e names all.
    let inside : c.loop-k.k < length c.args.lists.now = omega arith in
    c.if-fails.ensures.fails refl names (holds_at names c.args.probes.now c.args.lists.now c.loop-k.k c.index-probes-k.result c.as_slice.result.now c.loop-k-test.true c.index-probes-k.is
    (list_at c.args.lists.now c.loop-k.k c.index-lists-k.result c.as_slice.result.now c.as_slice.ensures c.index-lists-k.is inside) all)

pub loop-k-preserved : goal.loop-k-preserved
loop-k-preserved c =
    let inside : c.loop-k.k < length c.args.lists.now = omega arith in
    closed_more c.args.probes.now c.args.lists.now c.loop-k.k c.index-probes-k.result c.as_slice.result.now c.loop-k-test.true c.index-probes-k.is
    (list_at c.args.lists.now c.loop-k.k c.index-lists-k.result c.as_slice.result.now c.as_slice.ensures c.index-lists-k.is inside) c.loop-k.invariant (c.if-fails.ensures.holds refl)

pub returns-clause-holds : goal.returns-clause-holds
returns-clause-holds c = λ e k p lt. c.loop-k.invariant k p (omega arith)
