use Rattle.dl_tree.proofs.TopLemmas.{TopsTo}
use Rattle.dl_tree.proofs.atoms.tops.Given as goal

abbrev pub invariant-loop-less : goal.invariant-loop-less
invariant-loop-less l = TopsTo l.links l.s l.less l.tops.items
