use Rattle.std.proofs.Common.{refl}
use Rattle.dl_stream.specs.Reading.{in_edit}
use Rattle.dl_stream.proofs.SaidLemmas.{edit_comes, told_weaker}
use Rattle.dl_stream.proofs.said.edit.Goals as goal

pub returns-in-Ok-clause-comes : goal.returns-in-Ok-clause-comes
returns-in-Ok-clause-comes c =
    edit_comes c.args.n c.args.names.now c.args.stream c.requires.counted c.args.at c.args.made c.read_edits.new.made c.args.add c.args.text.now c.read_edits.new.names c.requires.few c.in-Ok.ensures.ok

pub returns-in-Err-clause-comes : goal.returns-in-Err-clause-comes
returns-in-Err-clause-comes c = told_weaker (λ k h. in_edit refl h) c.in-Err.ensures.fault
