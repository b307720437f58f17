use Rattle.std.proofs.Common.{◌∙◌, sym}
use Rattle.dl_stream.specs.Reading.{passed_over, formless}
use Rattle.dl_stream.specs.Parts.{said, shown}
use Rattle.dl_stream.proofs.SaidLemmas.{line_gives, line_faults, told_as}
use Rattle.dl_stream.proofs.reading.read_line.Goals as goal

pub returns-then-is_passed-clause-ok : goal.returns-then-is_passed-clause-ok
returns-then-is_passed-clause-ok c = record { gives = passed_over (sym c.is_passed.ensures ∙ c.if-is_passed.true); counted = c.requires }

pub returns-in-Some-clause-ok : goal.returns-in-Some-clause-ok
returns-in-Some-clause-ok c =
    line_gives c.args.n c.args.names.now c.args.line.now (shown c.args.place) (said c.in-Some.form) c.line_then.new.names (sym c.is_passed.ensures ∙ c.if-is_passed.false) c.in-Some.ensures c.line_then.result c.line_then.ensures.comes

pub returns-in-Some-clause-fault : goal.returns-in-Some-clause-fault
returns-in-Some-clause-fault c =
    line_faults c.args.n c.args.names.now c.args.line.now (shown c.args.place) (said c.in-Some.form) c.line_then.new.names (sym c.is_passed.ensures ∙ c.if-is_passed.false) c.in-Some.ensures c.line_then.result c.line_then.ensures.comes

pub returns-in-None-clause-fault : goal.returns-in-None-clause-fault
returns-in-None-clause-fault c = told_as c.misplaced.ensures (formless (sym c.is_passed.ensures ∙ c.if-is_passed.false) (sym c.in-None.ensures))
