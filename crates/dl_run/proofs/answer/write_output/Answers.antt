use Rattle.dl_run.specs.Ending.Printed.{whole, part}
use Rattle.dl_run.proofs.answer.write_output.Goals as goal

pub returns-in-Ok-clause-printed : goal.returns-in-Ok-clause-printed
returns-in-Ok-clause-printed g c = rw c.status_of.ensures (whole c.in-Ok.ensures.all)

pub returns-in-Err-clause-printed : goal.returns-in-Err-clause-printed
returns-in-Err-clause-printed g c = part c.in-Err.ensures.prefix c.in-Err.ensures.failed
