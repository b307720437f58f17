use Rattle.std.proofs.Common.{ap}
use Rattle.dl_stream.specs.Reading.{outside, fits}
use Rattle.dl_stream.specs.Parts.{said}
use Rattle.dl_stream.proofs.SaidLemmas.{first_comes, none_comes}
use Rattle.dl_stream.proofs.said.outside_then.Goals as goal
use Rattle.dl_stream.proofs.said.outside_then.Goals.{in-Begins, in-Opens, in-Edits, in-Closes, in-Puts, in-Asks}

pub returns : goal.returns
returns c =
    λ names.
    elim c.match-form.branch [
      | in-Begins w ↦ first_comes c.args.n names c.args.form w.new.result w.new-in-Begins.result c.match-form.result w.in-Begins.is w.new.ensures w.new-in-Begins.ensures w.result-is
      | in-Opens w ↦ none_comes c.args.n names outside c.args.form w.misplaced.result c.match-form.result names (ap (λ f. fits outside (said f)) w.in-Opens.is) w.misplaced.ensures w.result-is
      | in-Edits w ↦ none_comes c.args.n names outside c.args.form w.misplaced-in-Edits.result c.match-form.result names (ap (λ f. fits outside (said f)) w.in-Edits.is) w.misplaced-in-Edits.ensures w.result-is
      | in-Closes w ↦ none_comes c.args.n names outside c.args.form w.misplaced-in-Closes.result c.match-form.result names (ap (λ f. fits outside (said f)) w.in-Closes.is) w.misplaced-in-Closes.ensures w.result-is
      | in-Puts w ↦ none_comes c.args.n names outside c.args.form w.misplaced-in-Puts.result c.match-form.result names (ap (λ f. fits outside (said f)) w.in-Puts.is) w.misplaced-in-Puts.ensures w.result-is
      | in-Asks w ↦ none_comes c.args.n names outside c.args.form w.misplaced-in-Asks.result c.match-form.result names (ap (λ f. fits outside (said f)) w.in-Asks.is) w.misplaced-in-Asks.ensures w.result-is
    ]
