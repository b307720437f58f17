use Rattle.std.proofs.Common.{refl, arith, map, string_bytes}
use Rattle.dl_run.specs.Words.{answer, run, gen}
use Rattle.dl_run.specs.Defined.Prints.{usage, unbuilt}
use Rattle.dl_run.specs.Ending.Says.{usage as nothing_else, refused as stopped}
use Rattle.dl_run.proofs.EndingLemmas.{ended, Ends-same, always}
use Rattle.dl_run.proofs.ProgramLemmas.{one_output_of_words, for_form, by_form, asked_for}
use Rattle.dl_run.proofs.program.quest.Goals as goal

pub returns-in-Usage-clause-ends : goal.returns-in-Usage-clause-ends
returns-in-Usage-clause-ends g c =
    let words = map string_bytes c.args.words.now in
    let told = g.L.Library.told c.args.files.now in
    ended _ _ (λ file_of s o t a p r. (one_output_of_words words file_of p r).0) _ _ _ _ _ _ _ _ refl (λ name. omega arith) c.write_text-in-Usage.ensures.count _ _
    (nothing_else (always told (λ file_of. usage c.in-Usage.ensures))) c.write_text-in-Usage.ensures.printed

pub returns-in-Answer-clause-ends : goal.returns-in-Answer-clause-ends
returns-in-Answer-clause-ends g c =
    let words = map string_bytes c.args.words.now in
    let has = c.in-Answer.ensures in
    Ends-same _ _ _ _ (λ file_of s t. by_form words _ _ _ _ has file_of) (λ file_of s t. for_form words _ _ _ _ has file_of)
    (asked_for words _ _ _ _ has) _ c.answer_command.ensures.ends

pub returns-in-Run-clause-ends : goal.returns-in-Run-clause-ends
returns-in-Run-clause-ends g c =
    let words = map string_bytes c.args.words.now in
    let told = g.L.Library.told c.args.files.now in
    ended _ _ (λ file_of s o t a p r. (one_output_of_words words file_of p r).0) _ _ _ _ _ _ _ _ refl (λ name. omega arith) c.write_text.ensures.count _ _
    (stopped (always told (λ file_of. unbuilt (run _ _ _ _) c.in-Run.ensures tt))) c.write_text.ensures.printed

pub returns-in-Gen-clause-ends : goal.returns-in-Gen-clause-ends
returns-in-Gen-clause-ends g c =
    let words = map string_bytes c.args.words.now in
    let told = g.L.Library.told c.args.files.now in
    ended _ _ (λ file_of s o t a p r. (one_output_of_words words file_of p r).0) _ _ _ _ _ _ _ _ refl (λ name. omega arith) c.write_text-in-Gen.ensures.count _ _
    (stopped (always told (λ file_of. unbuilt (gen _ _) c.in-Gen.ensures tt))) c.write_text-in-Gen.ensures.printed

pub returns-in-Answer-clause-no_form : goal.returns-in-Answer-clause-no_form
returns-in-Answer-clause-no_form g c = λ none. absurd (none (answer _ _ _ _) c.in-Answer.ensures)

pub returns-in-Answer-clause-no_memory : goal.returns-in-Answer-clause-no_memory
returns-in-Answer-clause-no_memory g c = λ is. (answer _ _ _ _, c.in-Answer.ensures)

pub returns-in-Run-clause-no_form : goal.returns-in-Run-clause-no_form
returns-in-Run-clause-no_form g c = λ none. absurd (none (run _ _ _ _) c.in-Run.ensures)

pub returns-in-Gen-clause-no_form : goal.returns-in-Gen-clause-no_form
returns-in-Gen-clause-no_form g c = λ none. absurd (none (gen _ _) c.in-Gen.ensures)
