use Rattle.std.proofs.Common.{sym, subst}
use Rattle.dl_join.specs.Disjuncts.{IsTuple}
use Rattle.dl_rewrite.specs.OverNames.{HasOverNames}
use Rattle.dl_answer.specs.Searches.{AreRead}
use Rattle.dl_answer.specs.Sifted.{AreTogether}
use Rattle.dl_answer.proofs.StepLemmas.{gives_together}
use Rattle.dl_answer.proofs.SearchLemmas.{finds_exactly}
use Rattle.dl_answer.proofs.probes.tuples_by_fewer.Goals as goal

pub returns-clause-found : goal.returns-clause-found
returns-clause-found g c =
    let d = c.args.disjunct.now in
    let lists = c.as_slice.result.now in
    let Read = AreRead (g.R.Reads.stands c.args.reads.now) c.args.version c.args.hier.now c.args.kept.now in
    let are = subst (AreTogether Read d.probes) (sym c.as_slice.ensures)
    (subst (λ ps. AreTogether Read ps c.in_ok-lists.lists) c.as_slice-probes.ensures c.in_ok-lists.ensures.lists) in
    finds_exactly Read (λ axioms known. HasOverNames axioms known d) _ c.args.limit c.join.result (IsTuple d lists)
    c.join.ensures.tuples c.join.ensures.width c.join.ensures.within
    (λ axioms facts read.
    gives_together d lists c.args.limit c.join.result are.count c.requires.variables c.requires.safe c.join.ensures.tuples
    c.join.ensures.within c.join.ensures.many axioms facts (are.together axioms facts read))
