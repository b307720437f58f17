use Rattle.dl_answer.specs.Searches.{AreRead}
use Rattle.dl_answer.proofs.UnionLemmas.{certain_given}
use Rattle.dl_answer.proofs.ReaderLemmas.{goes_nowhere}
use Rattle.dl_answer.proofs.certain.certain.Goals as goal

pub returns-in_err-disjuncts-clause-goes : goal.returns-in_err-disjuncts-clause-goes
returns-in_err-disjuncts-clause-goes g c = goes_nowhere _ _ _ _ _

pub returns-clause-tuples : goal.returns-clause-tuples
returns-clause-tuples g c = λ axioms known read.
    certain_given (AreRead (g.R.Reads.stands c.args.reads.now) c.args.version c.args.hier.now c.args.kept.now)
    c.args.hier.now c.args.query.now c.in_ok-disjuncts.disjuncts c.args.limit c.united.result c.in_ok-disjuncts.ensures.exact
    (rw c.as_slice.ensures at c.united.ensures.found.tuples) axioms known read read.behind
