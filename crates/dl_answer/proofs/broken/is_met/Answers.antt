use Rattle.dl_answer.proofs.BrokenLemmas.{met_told, met_over}
use Rattle.dl_answer.proofs.ReaderLemmas.{goes_nowhere}
use Rattle.dl_answer.proofs.broken.is_met.Goals as goal

pub returns-in-Ok-clause-met : goal.returns-in-Ok-clause-met
returns-in-Ok-clause-met g c = λ axioms known read.
    met_told axioms known c.args.negative c.in_ok-query.query c.in-Ok.tuples.tuples c.len.result c.in_ok-query.ensures.value
    (c.in-Ok.ensures.tuples axioms known read).0 c.len.ensures

pub returns-in-Err-TooMany-clause-met : goal.returns-in-Err-TooMany-clause-met
returns-in-Err-TooMany-clause-met g c = λ axioms known read.
    met_over axioms known c.args.negative c.in_ok-query.query 1 c.in_ok-query.ensures.value
    (rw c.in-Err-TooMany.field-0-is at (c.in-Err-TooMany.ensures.tuples axioms known read))

pub returns-in_err-query-clause-goes : goal.returns-in_err-query-clause-goes
returns-in_err-query-clause-goes g c = goes_nowhere _ _ _ _ _
