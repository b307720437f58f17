use Rattle.std.proofs.Common.{List}
use Rattle.dl_names.specs.NameList.{Text}
use Rattle.dl_owl.specs.Expected.{title, annotations_first, open_then}
use Rattle.dl_owl.specs.Walk.{here, left, Goes}
use Rattle.dl_owl.proofs.ontology.head.Given as goal

abbrev pub invariant-loop-at : goal.invariant-loop-at
invariant-loop-at l =
    (names : List Text)
    → Goes (open_then (title 2)) (here l.fn.at l.fn.prefixes names) annotations_first (here l.at l.fn.prefixes names)

abbrev pub decreases-loop-at : goal.decreases-loop-at
decreases-loop-at l = left l.at
