use Rattle.std.proofs.Common.{[]}
use Rattle.dl_terms.specs.declared.role.Basic.{Basic}
use Rattle.dl_owl.specs.Expected.{subs_close}
use Rattle.dl_owl.specs.Walk.{here, left}
use Rattle.dl_owl.proofs.SeriesLemmas.{Series}
use Rattle.dl_owl.proofs.list.add_subs.Given as goal

abbrev pub invariant-loop-at : goal.invariant-loop-at
invariant-loop-at l =
    Series Basic (subs_close 2 []) subs_close 0 l.fn.subs l.subs (here l.fn.at l.fn.prefixes l.fn.names)
    (here l.at l.fn.prefixes l.names)

abbrev pub decreases-loop-at : goal.decreases-loop-at
decreases-loop-at l = left l.at
