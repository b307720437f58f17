use Rattle.std.proofs.Common.{ap}
use Rattle.dl_stream.specs.Reading.{in_stream, fits}
use Rattle.dl_stream.specs.Parts.{said}
use Rattle.dl_stream.proofs.SaidLemmas.{not_there}
use Rattle.dl_stream.proofs.said.stream_then.Goals as goal

pub returns-in-Edits-clause-comes : goal.returns-in-Edits-clause-comes
returns-in-Edits-clause-comes c =
    not_there c.args.n c.args.names.now (ap (λ f. fits (in_stream c.args.stream.before c.args.stream.commands) (said f)) c.in-Edits.is) c.misplaced.ensures

pub returns-in-Closes-clause-comes : goal.returns-in-Closes-clause-comes
returns-in-Closes-clause-comes c =
    not_there c.args.n c.args.names.now (ap (λ f. fits (in_stream c.args.stream.before c.args.stream.commands) (said f)) c.in-Closes.is) c.misplaced-in-Closes.ensures
