use Rattle.std.proofs.Common.{sym, subst}
use Rattle.dl_join.specs.Disjuncts.{AreSorted}
use Rattle.dl_rewrite.specs.OverNames.{HasOverNames}
use Rattle.dl_answer.specs.Kept.{AreFirst}
use Rattle.dl_answer.specs.Searches.{AreRead}
use Rattle.dl_answer.proofs.ReaderLemmas.{goes_and_keeps}
use Rattle.dl_answer.proofs.SearchLemmas.{finds_by}
use Rattle.dl_answer.proofs.probes.tuples_by_all.Goals as goal

pub tuples_over-tuples-requires-clause-sorted : goal.tuples_over-tuples-requires-clause-sorted
tuples_over-tuples-requires-clause-sorted g c = subst AreSorted (sym c.as_slice.ensures) c.in_ok-lists.ensures.lists.sorted

pub keep_all-requires-clause-sorted : goal.keep_all-requires-clause-sorted
keep_all-requires-clause-sorted g c = c.in_ok-lists.ensures.lists.sorted

pub returns-in_err-keep_all-clause-goes : goal.returns-in_err-keep_all-clause-goes
returns-in_err-keep_all-clause-goes g c =
    goes_and_keeps _ c.in_ok-lists.ensures.goes (λ axioms facts read kept.
    c.keep_all.ensures axioms facts kept (c.in_ok-lists.ensures.lists.first axioms facts read))

pub returns-clause-goes : goal.returns-clause-goes
returns-clause-goes g c =
    goes_and_keeps _ c.in_ok-lists.ensures.goes (λ axioms facts read kept.
    c.keep_all.ensures axioms facts kept (c.in_ok-lists.ensures.lists.first axioms facts read))

pub returns-clause-found : goal.returns-clause-found
returns-clause-found g c =
    let d = c.args.disjunct.now in
    let lists = c.as_slice.result.now in
    finds_by (λ axioms facts. AreFirst axioms facts d.probes lists)
    (AreRead (g.R.Reads.stands c.args.reads.now) c.args.version c.args.hier.now c.args.kept.now)
    (λ axioms known. HasOverNames axioms known d) _ c.args.limit c.tuples_over-tuples.result
    (λ axioms facts read.
    subst (λ ps. AreFirst axioms facts ps lists) c.as_slice-probes.ensures
    (subst (AreFirst axioms facts c.as_slice-probes.result.now) (sym c.as_slice.ensures)
    (c.in_ok-lists.ensures.lists.first axioms facts read)))
    c.tuples_over-tuples.ensures
