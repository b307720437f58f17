use Rattle.std.proofs.Common.{List}
use Rattle.dl_names.specs.NameList.{Text}
use Rattle.dl_owl.specs.Expected.{prologue}
use Rattle.dl_owl.specs.Walk.{here, left}
use Rattle.dl_owl.proofs.DocumentLemmas.{Behind}
use Rattle.dl_owl.proofs.prologue.prologue.Given as goal

abbrev pub invariant-loop-at : goal.invariant-loop-at
invariant-loop-at l =
    (names : List Text)
    → Behind prologue (here l.fn.at l.fn.prefixes names) prologue (here l.at l.prefixes names)

abbrev pub decreases-loop-at : goal.decreases-loop-at
decreases-loop-at l = left l.at
