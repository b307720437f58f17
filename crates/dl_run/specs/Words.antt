-- The written forms of the words after the program's name; they are this project's own.
use Rattle.std.specs.Prelude.{◌≡◌, ℕ, ◌==◌, ◌≤◌, Bool, true, false, not, List, [], ◌∷◌, ◌++◌, length, codes, Option, Some, None, unwrap_or}
use Rattle.std.specs.List.{Contains, list_all}
use Rattle.std.specs.Char.{is_ascii_digit}
use Rattle.std.specs.Str.Parse.{digits_value}
use Rattle.dl_names.specs.NameList.{Text}

-- how many answers `answer` prints at most, and how many shards `run` has, where no option says otherwise
abbrev pub default_limit : ℕ
default_limit = 10000

abbrev pub default_shards : ℕ
default_shards = 4

-- the most that the options and the numbers may be
abbrev pub max_limit : ℕ
max_limit = 1000000

abbrev pub max_shards : ℕ
max_shards = 64

abbrev pub max_number : ℕ
max_number = 4294967295

abbrev pub max_size : ℕ
max_size = 100000

-- a written form, with the names of its files, its options and its numbers
pub data Form : Type 0 where
  answer : (ontology facts query : Text) (limit : ℕ) → Form
  run : (ontology facts streams : Text) (shards : ℕ) → Form
  gen : (number size : ℕ) → Form

-- the names of the files that a form asks for, in the order in which they are read
abbrev pub file_names : Form → List Text
file_names (answer ontology facts query limit) = ontology ∷ facts ∷ query ∷ []
file_names (run ontology facts streams shards) = ontology ∷ facts ∷ streams ∷ []
file_names (gen number size) = []

-- a word that is no option: it isn't empty and doesn't begin with '-'
abbrev pub is_positional : Text → Bool
is_positional [] = false
is_positional (b ∷ bs) = not (b == 45)

-- the word spells this number, from least to most, in 1 to 10 decimal digits
pub record IsNumber (word : Text) (least most number : ℕ) : Type 0 where
  pub some : 1 ≤ length word
  pub few : length word ≤ 10
  pub digits : list_all is_ascii_digit word ≡ true
  pub is : number ≡ digits_value 10 word
  pub from : least ≤ number
  pub to : number ≤ most

-- no words, or those of an option: its name and a number from 1 to most, as two words or as one with '=' between
pub data IsOption (name : Text) (most : ℕ) (words : List Text) (given : Option ℕ) : Type 0 where
  absent : words ≡ [] → given ≡ None → IsOption name most words given
  apart : {word : Text} {number : ℕ} → words ≡ name ∷ word ∷ [] → IsNumber word 1 most number → given ≡ Some number
      → IsOption name most words given
  joined : {word : Text} {number : ℕ} → words ≡ (name ++ 61 ∷ word) ∷ [] → IsNumber word 1 most number
      → given ≡ Some number → IsOption name most words given

-- the words are positional ones, and anywhere among them those of an option, once at most
pub record AreWords (name : Text) (most : ℕ) (words positional : List Text) (given : Option ℕ) : Type 0 where
  pub before : List Text
  pub option : List Text
  pub after : List Text
  pub is : words ≡ before ++ (option ++ after)
  pub are : positional ≡ before ++ after
  pub all : list_all is_positional positional ≡ true
  pub is_option : IsOption name most option given

-- the words are a command, the names of files, and an option, whose number stands by itself where the option doesn't
pub record IsCommand (command name : Text) (default most : ℕ) (words files : List Text) (number : ℕ) : Type 0 where
  pub rest : List Text
  pub given : Option ℕ
  pub is : words ≡ command ∷ rest
  pub are : AreWords name most rest files given
  pub number_is : number ≡ unwrap_or given default

-- the words are the command `gen` and two numbers
pub record IsGen (words : List Text) (number size : ℕ) : Type 0 where
  pub number_word : Text
  pub size_word : Text
  pub is : words ≡ codes "gen" ∷ number_word ∷ size_word ∷ []
  pub is_number : IsNumber number_word 0 max_number number
  pub is_size : IsNumber size_word 1 max_size size

-- the words have the form
abbrev pub HasForm : List Text → Form → Type 0
HasForm words (answer ontology facts query limit) =
    IsCommand (codes "answer") (codes "--limit") default_limit max_limit words (ontology ∷ facts ∷ query ∷ []) limit
HasForm words (run ontology facts streams shards) =
    IsCommand (codes "run") (codes "--shards") default_shards max_shards words (ontology ∷ facts ∷ streams ∷ []) shards
HasForm words (gen number size) = IsGen words number size

-- the words have some written form
abbrev pub HasSomeForm : List Text → Type 0
HasSomeForm words = (form : Form) × HasForm words form

-- the words have no written form
abbrev pub HasNoForm : List Text → Type 0
HasNoForm words = (form : Form) → HasForm words form → ⊥

-- the words ask for the file of this name
abbrev pub AskFor : List Text → Text → Type 0
AskFor words name = (form : Form) × HasForm words form × Contains (file_names form) name
