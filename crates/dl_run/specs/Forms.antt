-- What the program finds in its words, as the written form that they have.
use Rattle.std.specs.Prelude.{ℕ, List}
use Rattle.dl_run.specs.Words.{answer, run, gen, HasForm, HasNoForm}
use Rattle.dl_run.specs.declared.words.Form.{Form}
use Rattle.dl_run.specs.declared.words.Form.TheVariants.{Answer, Run, Gen, Usage}

-- the words have this form, or none
abbrev pub IsFormOf : List (List ℕ) → Form → Type 0
IsFormOf words (Answer found) = HasForm words (answer found.ontology.now found.facts.now found.query.now found.limit)
IsFormOf words (Run found) = HasForm words (run found.ontology.now found.facts.now found.streams.now found.shards)
IsFormOf words (Gen found) = HasForm words (gen found.number found.size)
IsFormOf words Usage = HasNoForm words
