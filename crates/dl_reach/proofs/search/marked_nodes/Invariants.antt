use Rattle.dl_reach.proofs.Listing.{ListsMarked}
use Rattle.dl_reach.proofs.search.marked_nodes.Given as goal

abbrev pub invariant-loop-node : goal.invariant-loop-node
invariant-loop-node l = ListsMarked l.seen l.node l.nodes.items
