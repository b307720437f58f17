use Rattle.std.proofs.Common.{List}
use Rattle.dl_names.specs.NameList.{Text}
use Rattle.dl_owl.specs.Expected.{Expected, open_then, annotations_then}
use Rattle.dl_owl.specs.Walk.{here, left, Goes}
use Rattle.dl_owl.proofs.annotation.+begin.Given as goal

abbrev pub decreases-begin : goal.decreases-begin
decreases-begin l = left l.at.now

abbrev pub invariant-loop-at : goal.invariant-loop-at
invariant-loop-at l =
    (names : List Text) (e : Expected)
    → Goes (open_then (annotations_then e)) (here l.fn.at l.fn.prefixes names) (annotations_then e) (here l.at
    l.fn.prefixes names)

abbrev pub decreases-loop-at : goal.decreases-loop-at
decreases-loop-at l = left l.at
