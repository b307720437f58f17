use Rattle.std.proofs.lemmas.Bool.{leb-true, le-leb}
use Rattle.dl_reach.specs.Digraph.{max_nodes}
use Rattle.dl_reach.proofs.graph.fits.Goals as goal

pub returns : goal.returns
returns c = (leb-true c.args.nodes max_nodes, le-leb c.args.nodes max_nodes)
