use Rattle.std.proofs.lemmas.List.{append-nil}
use Rattle.dl_io.proofs.Answered.{OnErr-anyway}
use Rattle.dl_io.proofs.PrintLemmas.{prints_as, prints_then}
use Rattle.dl_run.proofs.OutputLemmas.{all_handed, part_handed}
use Rattle.dl_run.proofs.output.print_output.Goals as goal

pub returns-in_err-put_output-clause-prefix : goal.returns-in_err-put_output-clause-prefix
returns-in_err-put_output-clause-prefix g c =
    OnErr-anyway c.from_residual.result _
    (part_handed g.S.Sink.got g.S.Sink.faults c.args.out.now c.put_output.new.sink _ c.requires c.in_err-put_output.ensures)

pub returns-clause-all : goal.returns-clause-all
returns-clause-all g c =
    all_handed g.S.Sink.got g.S.Sink.faults c.args.out.now c.finish.new.self _ c.requires
    (prints_as (append-nil _) (prints_then c.in_ok-put_output.ensures c.finish.ensures.printed)) c.finish.ensures.handed

pub returns-clause-prefix : goal.returns-clause-prefix
returns-clause-prefix g c =
    part_handed g.S.Sink.got g.S.Sink.faults c.args.out.now c.finish.new.self _ c.requires
    (prints_as (append-nil _) (prints_then c.in_ok-put_output.ensures c.finish.ensures.printed))
