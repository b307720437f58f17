-- Reading an ontology: token by token, up to the end of the text or to the first token at which it can't go on.
use Rattle.std.specs.Prelude.{◌≡◌, ℕ, suc, pred, Bool, true, false, ◌&&◌, not, nat_le, ◌++◌, List, [], ◌∷◌, if◌then◌else◌}
use Rattle.dl_names.specs.NameList.{Text, names_after, place_of, has_no_place}
use Rattle.dl_owl.specs.declared.document.Document.{Document}
use Rattle.dl_owl.specs.Symbols.{Symbol, opening, closing, Placed, AreTokens}
use Rattle.dl_owl.specs.Prefixes.{Prefixes, predefined}
use Rattle.dl_owl.specs.declared.fault.OwlFault.{OwlFault}
use Rattle.dl_owl.specs.Causes.{Cause, too_deep, too_many_names, fault_of}
use Rattle.dl_owl.specs.Expected.{Expected, done, annotations_then, Move, goes, takes_name, declares, refuses}
use Rattle.dl_owl.specs.Steps.{move_of}

-- the most parentheses that may be open
abbrev pub max_depth : ℕ
max_depth = 64

-- what reading has met: the prefixes that are declared, the names, and how many parentheses are open
pub record Met : Type 0 where
  pub prefixes : Prefixes
  pub names : List Text
  pub depth : ℕ

-- what reading gives: a value, and the names after it; the cause and the offset of a fault; or
-- the tokens end before that
pub data Outcome : Type 0 where
  gives : Document → List Text → Outcome
  fails : Cause → ℕ → Outcome
  unfinished : Outcome

-- how many parentheses are open behind a token
abbrev pub depth_after : Symbol → ℕ → ℕ
depth_after opening depth = suc depth
depth_after closing depth = pred depth
depth_after _ depth = depth

abbrev pub is_too_deep : Symbol → ℕ → Bool
is_too_deep opening depth = nat_le max_depth depth
is_too_deep _ depth = false

-- where a token fits, and no parenthesis is opened inside so many open ones
abbrev pub at_depth : Met → Placed → (Met → Outcome) → Outcome
at_depth met t go =
    if is_too_deep t.symbol met.depth then fails too_deep t.at
    else go (record met { depth = depth_after t.symbol met.depth })

-- what comes of a move at a token, where reading goes on so
abbrev pub outcome_of : Met → Placed → (Expected → Met → Outcome) → Move → Outcome
outcome_of met t onward (goes e) = at_depth met t (λ later. onward e later)
outcome_of met t onward (takes_name text k) =
    at_depth met t (λ later.
    if has_no_place met.names text then fails too_many_names t.at
    else (let after = names_after met.names text in onward (k (place_of after text)) (record later { names = after })))
outcome_of met t onward (declares name iri e) =
    at_depth met t (λ later. onward e (record later { prefixes = met.prefixes ++ (name, iri) ∷ [] }))
outcome_of met t onward (refuses cause) = fails cause t.at

-- where no token is left
abbrev pub last_outcome : Expected → Met → Outcome
last_outcome (done document) met = gives document met.names
last_outcome (annotations_then e) met = last_outcome e met
last_outcome _ met = unfinished

-- what reading the tokens gives, where this is expected first
abbrev pub outcome : Expected → Met → List Placed → Outcome
outcome e met [] = last_outcome e met
outcome e met (t ∷ tokens) =
    outcome_of met t (λ next later. outcome next later tokens) (move_of met.prefixes e t.symbol)

-- no more parentheses are open anywhere than may be, where so many are open before
abbrev pub is_shallow : ℕ → List Symbol → Bool
is_shallow depth [] = true
is_shallow depth (s ∷ symbols) = not (is_too_deep s depth) && is_shallow (depth_after s depth) symbols

abbrev pub IsNoFault : Outcome → Type 0
IsNoFault (fails cause at) = ⊥
IsNoFault _ = Unit {0}

-- a fault comes at this token: before it there is none, and whatever follows it, the fault is the same
pub record FailsAt (e : Expected) (met : Met) (tokens : List Placed) (cause : Cause) (at : ℕ) : Type 0 where
  pub before : List Placed
  pub token : Placed
  pub more : List Placed
  pub is : tokens ≡ before ++ token ∷ more
  pub place : at ≡ token.at
  pub goes_on : IsNoFault (outcome e met before)
  pub always : (others : List Placed) → outcome e met (before ++ token ∷ others) ≡ fails cause at

-- before the first token
abbrev pub start : List Text → Met
start names = record { prefixes = predefined; names = names; depth = 0 }

-- reading the bytes gives this value, and these names after it
pub record ReadsValue (bytes : List ℕ) (e : Expected) (names : List Text) (document : Document) (after : List Text)
    : Type 0 where
  pub tokens : List Placed
  pub are : AreTokens bytes true 0 tokens
  pub comes : outcome e (start names) tokens ≡ gives document after

-- reading the bytes gives the fault of this cause at this offset
pub record ReadsFault (bytes : List ℕ) (e : Expected) (names : List Text) (cause : Cause) (at : ℕ) : Type 0 where
  pub tokens : List Placed
  pub are : AreTokens bytes false 0 tokens
  pub comes : outcome e (start names) tokens ≡ fails cause at

-- reading the bytes gives this fault
pub record IsFault (bytes : List ℕ) (e : Expected) (names : List Text) (fault : OwlFault) : Type 0 where
  pub cause : Cause
  pub at : ℕ
  pub is : fault ≡ fault_of cause at
  pub read : ReadsFault bytes e names cause at
