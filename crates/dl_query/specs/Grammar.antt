-- The grammar of queries, with what it reads. It is this project's own.
use Rattle.std.specs.Prelude.{◌≡◌, ℕ, true, List, [], ◌∷◌, ◌++◌, length}
use Rattle.dl_names.specs.NameList.{Text, names_after, place_of}
use Rattle.dl_names.specs.Iris.{is_free, may_be_class}
use Rattle.dl_terms.specs.declared.query.Term.{Term}
use Rattle.dl_terms.specs.declared.query.Term.TheVariants.{Var, Name}
use Rattle.dl_terms.specs.declared.query.Atom.{Atom}
use Rattle.dl_terms.specs.declared.query.Atom.TheVariants.{Is, Link}
use Rattle.dl_terms.specs.declared.query.Query.{Query}
use Rattle.dl_query.specs.declared.token.Mark.TheVariants.{QueryWord, Opening, Closing, Comma, Turnstile, Ending}
use Rattle.dl_query.specs.Symbols.{Symbol, mark, variable, iri}

-- what is read so far: the variables and the names, each by first occurrence, and the head and the atoms
pub record Met : Type 0 where
  pub variables : List Text
  pub names : List Text
  pub head : List ℕ
  pub atoms : List Atom

abbrev pub met : List Text → List Text → List ℕ → List Atom → Met
met variables names head atoms = record { variables = variables; names = names; head = head; atoms = atoms }

-- a variable is met, and its number: how many others were met before it
abbrev pub with_variable : Met → Text → Met
with_variable m x = record m { variables = names_after m.variables x }

abbrev pub number_of : Met → Text → ℕ
number_of m x = place_of (names_after m.variables x) x

-- a name is met, and its place
abbrev pub with_name : Met → Text → Met
with_name m text = record m { names = names_after m.names text }

abbrev pub name_at : Met → Text → ℕ
name_at m text = place_of (names_after m.names text) text

-- a variable stands in the head; an atom stands in the body
abbrev pub with_head : Met → Text → Met
with_head m x = record m { variables = names_after m.variables x; head = m.head ++ number_of m x ∷ [] }

abbrev pub with_atom : Met → Atom → Met
with_atom m a = record m { atoms = m.atoms ++ a ∷ [] }

-- the token is a term
pub data IsTerm (m : Met) : Symbol → Term → Met → Type 0 where
  variable_term : {x : Text} → IsTerm m (variable x) (Var (number_of m x)) (with_variable m x)
  name_term : {text : Text} → is_free text ≡ true → IsTerm m (iri text) (Name (name_at m text)) (with_name m text)

-- an atom stands next, and then the rest: a class with one term, or a role with two
pub data AtomThen (m : Met) : List Symbol → List Symbol → Met → Type 0 where
  class_atom : {c : Text} {s : Symbol} {t : Term} {one : Met} {rest : List Symbol}
      → may_be_class c ≡ true → IsTerm (with_name m c) s t one
      → AtomThen m (iri c ∷ mark Opening ∷ s ∷ mark Closing ∷ rest) rest (with_atom one (Is (name_at m c) t))
  role_atom : {p : Text} {s s' : Symbol} {t u : Term} {one two : Met} {rest : List Symbol}
      → is_free p ≡ true → IsTerm (with_name m p) s t one → IsTerm one s' u two
      → AtomThen m (iri p ∷ mark Opening ∷ s ∷ mark Comma ∷ s' ∷ mark Closing ∷ rest) rest
      (with_atom two (Link (name_at m p) t u))

-- atoms with a comma between, up to the end of the text
pub data IsBody : Met → List Symbol → Met → Type 0 where
  last_atom : {m after : Met} {symbols rest : List Symbol} → AtomThen m symbols (mark Ending ∷ rest) after
      → IsBody m symbols after
  more_atoms : {m one after : Met} {symbols others : List Symbol} → AtomThen m symbols (mark Comma ∷ others) one
      → IsBody one others after → IsBody m symbols after

-- variables with a comma between, at least one, then ), and then the rest
pub data VariablesThen : Met → List Symbol → List Symbol → Met → Type 0 where
  last_variable : {m : Met} {x : Text} {rest : List Symbol}
      → VariablesThen m (variable x ∷ mark Closing ∷ rest) rest (with_head m x)
  more_variables : {m after : Met} {x : Text} {others rest : List Symbol}
      → VariablesThen (with_head m x) others rest after
      → VariablesThen m (variable x ∷ mark Comma ∷ others) rest after

-- the same, or no variable
pub data HeadThen (m : Met) : List Symbol → List Symbol → Met → Type 0 where
  no_variable : {rest : List Symbol} → HeadThen m (mark Closing ∷ rest) rest m
  some_variables : {symbols rest : List Symbol} {after : Met} → VariablesThen m symbols rest after
      → HeadThen m symbols rest after

-- nothing is read yet
abbrev pub nothing_met : List Text → Met
nothing_met names = met [] names [] []

-- the tokens are a query, behind these names
pub record IsQuery (names : List Text) (symbols : List Symbol) (after : Met) : Type 0 where
  pub head : List Symbol
  pub body : List Symbol
  pub middle : Met
  pub is : symbols ≡ mark QueryWord ∷ mark Opening ∷ head
  pub in_head : HeadThen (nothing_met names) head (mark Turnstile ∷ body) middle
  pub in_body : IsBody middle body after

-- the query that is read
abbrev pub query_of : Met → Query
query_of m = record { head = m.head; atoms = m.atoms; vars = length m.variables }
