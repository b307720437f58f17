-- Where a reader of an ontology stands, and how it goes on from there to another place or comes to a fault.
use Rattle.std.specs.Prelude.{◌≡◌, ◌≢◌, ◌<◌, ◌-◌, ◌⊎◌, ℕ, suc, Bool, false, Result, Ok, Err, List, [], ◌∷◌, length}
use Rattle.dl_lex.specs.declared.token.TokenKind.{TokenKind}
use Rattle.dl_lex.specs.declared.token.TokenKind.TheVariants.{End}
use Rattle.dl_lex.specs.declared.token.Token.{Token}
use Rattle.dl_lex.specs.Grammar.{IsNextToken, IsFaultAt}
use Rattle.dl_names.specs.NameList.{Text, Extends}
use Rattle.dl_owl.specs.declared.fault.OwlFault.{OwlFault}
use Rattle.dl_owl.specs.declared.fault.OwlFault.TheVariants.{Syntax, NoMemory}
use Rattle.dl_owl.specs.Symbols.{Symbol, Placed, placed, AreTokens}
use Rattle.dl_owl.specs.Prefixes.{Prefixes}
use Rattle.dl_owl.specs.declared.iri.Found.{Found}
use Rattle.dl_owl.specs.declared.iri.Found.TheVariants.{Iri, Unknown, Other}
use Rattle.dl_owl.specs.Causes.{Cause, prefix_unknown, fault_of}
use Rattle.dl_owl.specs.Expected.{Expected, Move, refuses}
use Rattle.dl_owl.specs.NamesNext.{IsIri}
use Rattle.dl_owl.specs.Steps.{at_iri, move_of}
use Rattle.dl_owl.specs.Reading.{Met, fails, outcome}

-- the bytes, the token that stands next, and how many parentheses are open before it
pub record Spot : Type 0 where
  pub bytes : List ℕ
  pub token : Token
  pub depth : ℕ

-- the symbol of the next token
abbrev pub symbol_at : Spot → Symbol
symbol_at s = (placed s.bytes s.token).symbol

-- no more tokens than this are left, the next one among them: none at the end
abbrev pub left_by : TokenKind → ℕ → ℕ
left_by End behind = 0
left_by _ behind = suc behind

abbrev pub left : Spot → ℕ
left s = left_by s.token.kind (length s.bytes - s.token.end)

-- with what else is met so far
pub record Here : Type 0 where
  pub spot : Spot
  pub prefixes : Prefixes
  pub names : List Text

abbrev pub here : Spot → Prefixes → List Text → Here
here spot p names = record { spot = spot; prefixes = p; names = names }

abbrev pub met_of : Here → Met
met_of h = record { prefixes = h.prefixes; names = h.names; depth = h.spot.depth }

-- these are the tokens from this one on
pub data FromToken (bytes : List ℕ) (all : Bool) (t : Token) : List Placed → Type 0 where
  last : t.kind ≡ End → FromToken bytes all t (placed bytes t ∷ [])
  more : {rest : List Placed} → t.kind ≢ End → AreTokens bytes all t.end rest
      → FromToken bytes all t (placed bytes t ∷ rest)

-- where this is expected here, that is expected there, further on, and the names have only grown: whatever tokens stand
-- there, with those before them they come to the same
pub record Goes (e : Expected) (from : Here) (later : Expected) (to : Here) : Type 0 where
  pub same : to.spot.bytes ≡ from.spot.bytes
  pub ahead : left to.spot < left from.spot
  pub grows : Extends from.names to.names
  pub on : (all : Bool) (rest : List Placed) → FromToken from.spot.bytes all to.spot.token rest
      → (tokens : List Placed) × (FromToken from.spot.bytes all from.spot.token tokens
      × (outcome e (met_of from) tokens ≡ outcome later (met_of to) rest))

-- where this is expected here, reading comes to this fault, or memory is refused
pub record FaultsBy (e : Expected) (from : Here) (fault : OwlFault) : Type 0 where
  pub cause : Cause
  pub at : ℕ
  pub tokens : List Placed
  pub is : fault ≡ fault_of cause at
  pub are : FromToken from.spot.bytes false from.spot.token tokens
  pub comes : outcome e (met_of from) tokens ≡ fails cause at

-- the same, or memory is refused; and up to there the names have only grown to these
pub record Faults (e : Expected) (from : Here) (after : List Text) (fault : OwlFault) : Type 0 where
  pub grows : Extends from.names after
  pub why : (fault ≡ NoMemory) ⊎ FaultsBy e from fault

-- what stands next is read, with its value, up to another place
abbrev pub Reads : {V : Type 0} → ((V → Expected) → Expected) → Here → Here → Result V OwlFault → Type 0
Reads {V} e from to (Ok v) = (k : V → Expected) → Goes (e k) from (k v) to
Reads {V} e from to (Err fault) = (k : V → Expected) → Faults (e k) from to.names fault

-- the same of what has no value
abbrev pub Passes : (Expected → Expected) → Here → Here → Result (Unit {0}) OwlFault → Type 0
Passes e from to (Ok _) = (k : Expected) → Goes (e k) from k to
Passes e from to (Err fault) = (k : Expected) → Faults (e k) from to.names fault

-- wherever this is what the next token does, it is read, with a value, up to another place
abbrev pub Follows : {V : Type 0} → ((V → Expected) → Move) → Here → Here → Result V OwlFault → Type 0
Follows {V} m from to (Ok v) =
    (e : Expected) (k : V → Expected) → move_of from.prefixes e (symbol_at from.spot) ≡ m k → Goes e from (k v) to
Follows {V} m from to (Err fault) =
    (e : Expected) (k : V → Expected) → move_of from.prefixes e (symbol_at from.spot) ≡ m k
    → Faults e from to.names fault

-- an IRI of this text stands next; or, where one is expected or else it is this fault, reading comes to a fault
abbrev pub Expects : Spot → Prefixes → Text → OwlFault → Result (Unit {0}) OwlFault → Type 0
Expects s p text other (Ok _) = IsIri p (symbol_at s) text
Expects s p text other (Err fault) =
    (names : List Text) (e : Expected) (k : Text → Move) (cause : Cause) → other ≡ fault_of cause s.token.start
    → move_of p e (symbol_at s) ≡ at_iri p (symbol_at s) k (refuses cause) → Faults e (here s p names) names fault

-- the first token of the bytes stands next
pub record Begins (bytes : List ℕ) (s : Spot) : Type 0 where
  pub is : s.bytes ≡ bytes
  pub flat : s.depth ≡ 0
  pub first : IsNextToken bytes 0 s.token

-- where none is the first, that is the fault
pub record NoneFirst (bytes : List ℕ) (fault : OwlFault) : Type 0 where
  pub at : ℕ
  pub is : fault ≡ Syntax at
  pub none : IsFaultAt bytes 0 at

-- the next token is passed over
pub record Moved (old new : Spot) : Type 0 where
  pub bytes : new.bytes ≡ old.bytes
  pub depth : new.depth ≡ old.depth
  pub next : IsNextToken old.bytes old.token.end new.token

-- where none is the next, that is the fault
pub record NoneNext (old : Spot) (fault : OwlFault) : Type 0 where
  pub at : ℕ
  pub is : fault ≡ Syntax at
  pub none : IsFaultAt old.bytes old.token.end at

abbrev pub Advances : Spot → Spot → Result (Unit {0}) OwlFault → Type 0
Advances old new (Ok _) = Moved old new
Advances old new (Err fault) = NoneNext old fault

-- what a token that was looked at is: an IRI, whose text is at hand, a short one whose prefix isn't declared, or no IRI
abbrev pub found_move : Found → Text → (Text → Move) → Move → Move
found_move Iri text k other = k text
found_move Unknown text k other = refuses prefix_unknown
found_move Other text k other = other
