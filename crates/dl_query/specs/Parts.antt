-- What the private readers find and keep.
use Rattle.std.specs.Prelude.{◌≡◌, ◌≢◌, ℕ, ◌<◌, ◌≤◌, Bool, true, false, ◌||◌, List, [], ◌∷◌, ◌++◌, length, nat_eq, slice_index_or}
use Rattle.std.specs.List.{list_any, flat_map, AllByRecursion}
use Rattle.dl_names.specs.NameList.{Text, names_after, place_of}
use Rattle.dl_terms.specs.declared.query.Term.{Term}
use Rattle.dl_terms.specs.declared.query.Term.TheVariants as terms
use Rattle.dl_terms.specs.declared.query.Atom.{Atom}
use Rattle.dl_terms.specs.declared.query.Atom.TheVariants as atoms
use Rattle.dl_query.specs.declared.fault.QueryFault.{QueryFault}
use Rattle.dl_query.specs.declared.fault.QueryFault.TheVariants as faults
use Rattle.dl_query.specs.declared.token.Token.{Token}
use Rattle.dl_query.specs.declared.token.Token.TheVariants.{Mark, Variable, Iri, Nothing}
use Rattle.dl_query.specs.declared.token.Class.{Class}
use Rattle.dl_query.specs.declared.token.Class.TheVariants as classes
use Rattle.dl_names.specs.Iris.{is_iri_byte}
use Rattle.dl_query.specs.declared.statement.Reference.{Reference}
use Rattle.dl_query.specs.declared.statement.Reference.TheVariants as references
use Rattle.dl_query.specs.declared.statement.Statement.{Statement}
use Rattle.dl_query.specs.declared.statement.Statement.TheVariants as statements
use Rattle.dl_query.specs.declared.tokens.Tokens.{Tokens}
use Rattle.dl_query.specs.declared.body.Body.{Body}
use Rattle.dl_terms.specs.Queries.{atom_variables}
use Rattle.dl_query.specs.Symbols.{Symbol, mark, variable, iri, no_token, is_blank, is_variable_byte, next_front, next_placed}
use Rattle.dl_query.specs.Grammar.{Met, met}
use Rattle.dl_query.specs.Steps.{Expected, predicate, Cause, fault_of, Move, refuses}
use Rattle.dl_query.specs.Reading.{Outcome, gives, fails, HasOutcome}

-- the bytes of a class
abbrev pub admits : Class → ℕ → Bool
admits classes.Blank = is_blank
admits classes.Variable = is_variable_byte
admits classes.Iri = is_iri_byte

-- what a token says
abbrev pub symbol_of : Token → Symbol
symbol_of (Mark m) = mark m
symbol_of (Variable name) = variable name.now
symbol_of (Iri text) = iri text.now
symbol_of Nothing = no_token

-- the term and the atom that are kept
abbrev pub term_of : Reference → Term
term_of (references.Variable n) = terms.Var n
term_of (references.Name place) = terms.Name place

abbrev pub atom_of : Statement → Atom
atom_of (statements.Is c t) = atoms.Is c (term_of t)
atom_of (statements.Link p t u) = atoms.Link p (term_of t) (term_of u)

-- the next token is passed over
pub record Passes (old new : Tokens) : Type 0 where
  pub len : new.len ≡ old.len
  pub rest : new.rest.now ≡ (next_front old.rest.now).rest

-- the next token, and the offset of its first byte
abbrev pub next_symbol : Tokens → Symbol
next_symbol tokens = (next_front tokens.rest.now).symbol

abbrev pub next_at : Tokens → ℕ
next_at tokens = (next_placed tokens.len tokens.rest.now).at

-- reading the rest gives this, where this is expected
abbrev pub Gives : Expected → Met → Tokens → Outcome → Type 0
Gives e m tokens o = HasOutcome tokens.len e m tokens.rest.now o

-- reading goes on from the first place to the second: what it gives there it gives here
pub record Leads (e : Expected) (m : Met) (old : Tokens) (e' : Expected) (m' : Met) (new : Tokens) : Type 0 where
  pub onward : (o : Outcome) → Gives e' m' new o → Gives e m old o

-- a fault other than want of memory is the one that reading gives, with the names met before it
abbrev pub Stops : Expected → Met → Tokens → QueryFault → List Text → Type 0
Stops e m tokens fault names = fault ≢ faults.NoMemory → Gives e m tokens (fails fault names)

-- a fault other than want of memory has a cause for which the move is refused
abbrev pub Refuses : Move → ℕ → QueryFault → Type 0
Refuses move at fault = fault ≢ faults.NoMemory → (cause : Cause) × (fault ≡ fault_of cause at) × (move ≡ refuses cause)

-- the numbers of the head's places: those below the count, each at least once
pub record AreNumbers (head : List ℕ) (count : ℕ) : Type 0 where
  pub below : AllByRecursion (λ v. v < count) head
  pub each : (v : ℕ) → v < count → list_any (nat_eq v) head ≡ true
  pub fits : count ≤ length head

-- a variable is added to the head
pub record Adds (head : List ℕ) (variables : List Text) (x : Text) (head' : List ℕ) (variables' : List Text)
    : Type 0 where
  pub met : variables' ≡ names_after variables x
  pub added : head' ≡ head ++ place_of (names_after variables x) x ∷ []

-- the number of a term's variable is below this
abbrev pub IsBelow : ℕ → Reference → Type 0
IsBelow count (references.Variable n) = n < count
IsBelow count (references.Name place) = Unit {0}

abbrev pub AreBelow : ℕ → Statement → Type 0
AreBelow count (statements.Is c t) = IsBelow count t
AreBelow count (statements.Link p t u) = IsBelow count t × IsBelow count u

-- these variables are marked too
pub record Marks (old : List Bool) (variables : List ℕ) (new : List Bool) : Type 0 where
  pub as_many : length new ≡ length old
  pub marked : (v : ℕ) → v < length old
      → slice_index_or new v false ≡ (slice_index_or old v false || list_any (nat_eq v) variables)

-- what a body keeps of its atoms: how many they are, themselves where they and the variables are few, and which of the
-- head's variables they have
pub record Keeps (body : Body) (atoms : List Atom) (variables heads : ℕ) : Type 0 where
  pub counted : body.count ≡ length atoms
  pub kept : variables ≤ 256 → length atoms ≤ 16 → body.kept ≡ atoms
  pub marks : length body.bound.items ≡ heads
  pub marked : (v : ℕ) → v < heads
      → slice_index_or body.bound.items v false ≡ list_any (nat_eq v) (flat_map atom_variables atoms)

-- behind these variables and names a body is read to the end, and this is kept of it
pub record ReadsBody (tokens : Tokens) (variables names variables' names' : List Text) (body : Body) : Type 0 where
  pub atoms : List Atom
  pub reads : (head : List ℕ)
      → Gives predicate (met variables names head []) tokens (gives (met variables' names' head atoms))
  pub keeps : Keeps body atoms (length variables') (length variables)

-- each variable is in the head or in an atom, and there is an atom
pub record IsNumbered (m : Met) : Type 0 where
  pub within : AllByRecursion (λ v. v < length m.variables) (flat_map atom_variables m.atoms)
  pub each : (v : ℕ) → v < length m.variables
      → (list_any (nat_eq v) m.head || list_any (nat_eq v) (flat_map atom_variables m.atoms)) ≡ true
  pub some : 1 ≤ length m.atoms

-- this is read, and kept so
pub record Judges (m : Met) (head : List ℕ) (body : Body) (heads variables : ℕ) : Type 0 where
  pub numbered : IsNumbered m
  pub in_head : head ≡ m.head
  pub in_all : variables ≡ length m.variables
  pub keeps : Keeps body m.atoms variables heads
