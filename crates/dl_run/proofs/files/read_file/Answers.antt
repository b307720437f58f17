use Rattle.std.proofs.Common.{Err, ap}
use Rattle.dl_run.proofs.FileLemmas.{file_stops}
use Rattle.dl_run.proofs.files.read_file.Goals as goal

pub returns-in-Err-clause-stop : goal.returns-in-Err-clause-stop
returns-in-Err-clause-stop g c =
    file_stops c.args.file (g.L.Library.told c.args.files.now) c.args.name.now _ c.in-Err.fault _ c.stop_of_file.ensures
    (λ is. c.in-Err.ensures.failed (ap Err is)) (λ is. c.in-Err.ensures.too_long (ap Err is))
