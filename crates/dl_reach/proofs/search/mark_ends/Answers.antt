use Rattle.std.proofs.Common.{ℕ}
use Rattle.std.proofs.lemmas.List.{map_more, take_all}
use Rattle.dl_reach.proofs.Marking.{Marks-more}
use Rattle.dl_reach.proofs.search.mark_ends.Goals as goal

pub loop-edge-preserved : goal.loop-edge-preserved
loop-edge-preserved c = rw (map_more (λ (e : ℕ × ℕ). e.1) c.args.edges.now c.loop-edge.edge-index (0, 0) c.loop-edge-test.true) (Marks-more _ _ _ _ _ _ _ _ c.loop-edge.invariant c.in_ok-mark.ensures)

pub returns : goal.returns
returns c = rw (take_all c.loop-edge.edge-index c.args.edges.now c.loop-edge-test.false) at c.loop-edge.invariant
