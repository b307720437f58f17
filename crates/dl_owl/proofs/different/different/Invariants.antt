use Rattle.std.proofs.Common.{List}
use Rattle.dl_names.specs.NameList.{Text}
use Rattle.dl_owl.specs.Walk.{here, left}
use Rattle.dl_owl.proofs.DifferentLemmas.{Different}
use Rattle.dl_owl.proofs.different.different.Given as goal

abbrev pub invariant-loop-at : goal.invariant-loop-at
invariant-loop-at l =
    (names : List Text) → Different 0 l.before (here l.fn.at l.fn.prefixes names) (here l.at l.fn.prefixes names)

abbrev pub decreases-loop-at : goal.decreases-loop-at
decreases-loop-at l = left l.at
