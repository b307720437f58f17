use Rattle.std.proofs.Common.{◌∙◌}
use Rattle.dl_stream.proofs.CutLemmas.{stripped, not_stripped}
use Rattle.dl_stream.proofs.cut.without_return.Goals as goal

pub returns-in-Some : goal.returns-in-Some
returns-in-Some c = let cases = c.in-Some.ensures.cases in cases.1 ∙ stripped c.args.bytes.now cases.0

pub returns-in-None : goal.returns-in-None
returns-in-None c = not_stripped c.args.bytes.now c.in-None.ensures.cases
