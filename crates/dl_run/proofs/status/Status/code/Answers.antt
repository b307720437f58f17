use Rattle.std.proofs.Common.{ap, sym}
use Rattle.dl_run.specs.Codes.{code_of}
use Rattle.dl_run.proofs.status.Status.code.Goals as goal

pub returns-in-ReadFault : goal.returns-in-ReadFault
returns-in-ReadFault g = ap code_of (sym g.in-ReadFault.is)
