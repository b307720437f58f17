use Rattle.dl_run.proofs.AnswerLemmas.{one_output}
use Rattle.dl_run.proofs.ProgramLemmas.{one_output_of_words}
use Rattle.dl_run.proofs.laws.outputs_are_determined.Goals as goal

pub returns-clause-answer : goal.returns-clause-answer
returns-clause-answer c = λ o d q limit status other text also one two. one_output one two

pub returns-clause-program : goal.returns-clause-program
returns-clause-program c = λ words file_of status other text also one two. one_output_of_words words file_of one two
