use Rattle.std.proofs.Common.{refl}
use Rattle.dl_answer.proofs.BrokenLemmas.{found_told, fault_told}
use Rattle.dl_answer.proofs.asked.told.Goals as goal

pub returns-in-Ok-clause-reply : goal.returns-in-Ok-clause-reply
returns-in-Ok-clause-reply c = λ axioms facts nothing q limit none gives. (
  found_told axioms facts nothing q limit c.args.tuples none gives c.in-Ok.tuples c.in-Ok.is,
  refl,
)

pub returns-in-Err-clause-reply : goal.returns-in-Err-clause-reply
returns-in-Err-clause-reply c = λ axioms facts nothing q limit none gives.
    fault_told axioms facts nothing q limit c.args.tuples none gives c.args.version c.in-Err.fault c.fault_of.result c.in-Err.is
    c.fault_of.ensures.fault
