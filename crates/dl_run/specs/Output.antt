-- What is printed. The form of the lines is this project's own.
use Rattle.std.specs.Prelude.{ℕ, List, [], ◌∷◌, ◌++◌, codes}
use Rattle.std.specs.List.{flat_map}
use Rattle.std.specs.Fmt.{decimal}
use Rattle.dl_event.specs.declared.answer.Answer.{Answer}
use Rattle.dl_event.specs.declared.answer.Answer.TheVariants.{Found, Inconsistent}
use Rattle.dl_names.specs.NameList.{Text}
use Rattle.dl_text.specs.AnswerText.{answers_text, broken_names, inconsistent_text}

-- how many facts there are, and how many triples were skipped
abbrev pub facts_line : ℕ → ℕ → List ℕ
facts_line facts skipped = codes "facts " ++ (decimal facts ++ (codes " skipped " ++ (decimal skipped ++ 10 ∷ [])))

-- ---- for private functions

-- the text of an answer: of the tuples, or of the axiom that is broken
abbrev pub answer_text : List Text → Answer → List ℕ
answer_text names (Found version tuples) = answers_text names tuples.tuples
answer_text names (Inconsistent version broken) = inconsistent_text names broken

-- the names in it
abbrev pub answer_names : Answer → List ℕ
answer_names (Found version tuples) = flat_map (λ tuple. tuple) tuples.tuples
answer_names (Inconsistent version broken) = broken_names broken
