use Rattle.dl_run.proofs.EndingLemmas.{ended}
use Rattle.dl_run.proofs.AnswerLemmas.{one_output}
use Rattle.dl_run.proofs.answer.answer_command.Goals as goal

pub returns-clause-ends : goal.returns-clause-ends
returns-clause-ends g c =
    let output = c.answers_of-output.ensures in
    ended _ _ (λ file_of s o t a p r. (one_output p r).0) _ _ _ _ _ _ _ _ output.unchanged output.count c.write_output-status.ensures.count _ _ output.says
    c.write_output-status.ensures.printed
