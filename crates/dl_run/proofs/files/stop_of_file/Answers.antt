use Rattle.std.proofs.Common.{ap, sym}
use Rattle.dl_run.specs.Stops.{stop_of_file}
use Rattle.dl_run.proofs.files.stop_of_file.Goals as goal

pub returns-in-TooLong : goal.returns-in-TooLong
returns-in-TooLong c = ap (stop_of_file c.args.file) (sym c.in-TooLong.is)
