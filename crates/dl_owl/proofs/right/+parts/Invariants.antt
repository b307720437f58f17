use Rattle.dl_terms.specs.declared.axiom.Part.{Part}
use Rattle.dl_owl.specs.Expected.{sups_close}
use Rattle.dl_owl.specs.Walk.{here, left}
use Rattle.dl_owl.proofs.SeriesLemmas.{Series, parts_behind}
use Rattle.dl_owl.proofs.right.+parts.Given as goal

abbrev pub decreases-add_parts : goal.decreases-add_parts
decreases-add_parts l = left l.at.now

abbrev pub decreases-intersection : goal.decreases-intersection
decreases-intersection l = left l.at.now

abbrev pub invariant-intersection-loop-at : goal.invariant-intersection-loop-at
invariant-intersection-loop-at l =
    Series Part parts_behind sups_close 0 l.fn.parts l.parts (here l.fn.at l.fn.prefixes l.fn.names)
    (here l.at l.fn.prefixes l.names)

abbrev pub decreases-intersection-loop-at : goal.decreases-intersection-loop-at
decreases-intersection-loop-at l = left l.at
