use Rattle.dl_hier.proofs.SearchLemmas.{absent}
use Rattle.dl_hier.proofs.nodes.index_of.Goals as goal

pub returns-in-Err : goal.returns-in-Err
returns-in-Err g c = absent g.met.T.Ord.total c.args.items.now c.requires.ascending c.args.item.now _ c.in-Err.ensures.position
