use Rattle.dl_reach.proofs.SortedEdges.{ends_more, ends_from}
use Rattle.dl_reach.proofs.order.Search.push_edges.Goals as goal

pub invariant_of-self-in-loop-i-clause-pairs_below : goal.invariant_of-self-in-loop-i-clause-pairs_below
invariant_of-self-in-loop-i-clause-pairs_below c = ends_more c.loop-i.self.nodes c.loop-i.self.pairs.items c.edges_from.result.now _ _ c.extend_from_slice.ensures.items c.loop-i.self.pairs_below (ends_from c.loop-i.self.nodes c.args.edges.now c.edges_from.result.now c.index.result.now (rw c.loop-i.invariant.0 c.requires.ends) c.edges_from.ensures)
