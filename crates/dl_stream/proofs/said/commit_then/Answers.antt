use Rattle.std.proofs.Common.{ap}
use Rattle.dl_stream.specs.Forms.{closes, edits}
use Rattle.dl_stream.specs.Reading.{in_commit, fits}
use Rattle.dl_stream.specs.Parts.{said}
use Rattle.dl_stream.proofs.SaidLemmas.{none_comes, same_comes}
use Rattle.dl_stream.proofs.said.commit_then.Goals as goal
use Rattle.dl_stream.proofs.said.commit_then.Goals.{in-Begins, in-Opens, in-Edits, in-Closes, in-Puts, in-Asks}

pub returns-clause-comes : goal.returns-clause-comes
returns-clause-comes c =
    elim c.match-form.branch [
      | in-Begins w ↦ none_comes c.args.n c.args.names.now (in_commit c.args.stream.before c.args.stream.commands c.args.at c.args.made) c.args.form w.misplaced.result c.match-form.result c.match-form.names (ap (λ f. fits (in_commit c.args.stream.before c.args.stream.commands c.args.at c.args.made) (said f)) w.in-Begins.is) w.misplaced.ensures w.result-is
      | in-Opens w ↦ none_comes c.args.n c.args.names.now (in_commit c.args.stream.before c.args.stream.commands c.args.at c.args.made) c.args.form w.misplaced-in-Opens.result c.match-form.result c.match-form.names (ap (λ f. fits (in_commit c.args.stream.before c.args.stream.commands c.args.at c.args.made) (said f)) w.in-Opens.is) w.misplaced-in-Opens.ensures w.result-is
      | in-Edits w ↦ same_comes c.args.n c.args.names.now (in_commit c.args.stream.before c.args.stream.commands c.args.at c.args.made) (said c.args.form) (edits w.in-Edits.add w.in-Edits.text.now) c.match-form.names w.edit.new.names c.match-form.result w.edit.result (ap said w.in-Edits.is) w.names-is w.result-is w.edit.ensures.comes
      | in-Closes w ↦ same_comes c.args.n c.args.names.now (in_commit c.args.stream.before c.args.stream.commands c.args.at c.args.made) (said c.args.form) closes c.match-form.names c.args.names.now c.match-form.result w.close_commit.result (ap said w.in-Closes.is) w.names-is w.result-is (w.close_commit.ensures c.args.names.now)
      | in-Puts w ↦ none_comes c.args.n c.args.names.now (in_commit c.args.stream.before c.args.stream.commands c.args.at c.args.made) c.args.form w.misplaced-in-Puts.result c.match-form.result c.match-form.names (ap (λ f. fits (in_commit c.args.stream.before c.args.stream.commands c.args.at c.args.made) (said f)) w.in-Puts.is) w.misplaced-in-Puts.ensures w.result-is
      | in-Asks w ↦ none_comes c.args.n c.args.names.now (in_commit c.args.stream.before c.args.stream.commands c.args.at c.args.made) c.args.form w.misplaced-in-Asks.result c.match-form.result c.match-form.names (ap (λ f. fits (in_commit c.args.stream.before c.args.stream.commands c.args.at c.args.made) (said f)) w.in-Asks.is) w.misplaced-in-Asks.ensures w.result-is
    ]
