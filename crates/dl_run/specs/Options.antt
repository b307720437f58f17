-- What the program finds among the words behind a command.
use Rattle.std.specs.Prelude.{◌≡◌, ℕ, Bool, true, not, List, [], ◌∷◌, ◌++◌, Option, Some, None}
use Rattle.dl_names.specs.NameList.{Text}
use Rattle.dl_run.specs.Words.{is_positional, IsNumber}

-- no word stands there, or the words of an option and then the rest
pub data OptionThen (name : Text) (most : ℕ) (words : List Text) (given : Option ℕ) (rest : List Text) : Type 0 where
  absent : words ≡ [] → given ≡ None → rest ≡ [] → OptionThen name most words given rest
  apart : {word : Text} {number : ℕ} → words ≡ name ∷ word ∷ rest → IsNumber word 1 most number → given ≡ Some number
      → OptionThen name most words given rest
  joined : {word : Text} {number : ℕ} → words ≡ (name ++ 61 ∷ word) ∷ rest → IsNumber word 1 most number
      → given ≡ Some number → OptionThen name most words given rest

-- no positional word stands next
abbrev pub ends_positional : List Text → Bool
ends_positional [] = true
ends_positional (word ∷ words) = not (is_positional word)
