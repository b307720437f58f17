use Rattle.dl_run.specs.Ending.Printed.{whole, part}
use Rattle.dl_run.proofs.program.write_text.Goals as goal

pub returns-in-Ok-clause-printed : goal.returns-in-Ok-clause-printed
returns-in-Ok-clause-printed g c = whole (rw c.as_bytes.ensures.value at c.in-Ok.ensures.all)

pub returns-in-Err-clause-printed : goal.returns-in-Err-clause-printed
returns-in-Err-clause-printed g c = part (rw c.as_bytes.ensures.value at c.in-Err.ensures.prefix) c.in-Err.ensures.failed
