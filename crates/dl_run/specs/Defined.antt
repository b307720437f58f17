-- The defined output of the program: for words and files the status and the text, as far as they decide it. Each
-- command has its own definition of what it prints.
use Rattle.std.specs.Prelude.{ℕ, List}
use Rattle.dl_run.specs.Answered.{AnswerOf}
use Rattle.dl_run.specs.Texts.{usage_text, not_built_text}
use Rattle.dl_run.specs.Words.{Form, answer, run, gen, HasForm, HasNoForm}
use Rattle.dl_run.specs.declared.status.Status.{Status}
use Rattle.dl_run.specs.declared.status.Status.TheVariants as status

-- the forms that aren't built yet
abbrev pub IsUnbuilt : Form → Type 0
IsUnbuilt (answer ontology facts query limit) = ⊥
IsUnbuilt (run ontology facts streams shards) = Unit {0}
IsUnbuilt (gen number size) = Unit {0}

-- what the program prints for its words and the bytes of each file name
pub data Prints (words : List (List ℕ)) (file_of : List ℕ → List ℕ) : Status → List ℕ → Type 0 where
  usage : HasNoForm words → Prints words file_of status.Usage usage_text
  unbuilt : (form : Form) → HasForm words form → IsUnbuilt form
      → Prints words file_of status.Refused not_built_text
  by_answer : {ontology facts query : List ℕ} {limit : ℕ} {status : Status} {text : List ℕ}
      → HasForm words (answer ontology facts query limit) → AnswerOf ontology facts query limit file_of status text
      → Prints words file_of status text
