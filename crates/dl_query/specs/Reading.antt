-- Reading a query: token by token, up to the end of the text or to the first token at which it can't go on.
use Rattle.std.specs.Prelude.{◌≡◌, ℕ, true, List, [], ◌∷◌, ◌++◌, length, drop}
use Rattle.dl_names.specs.NameList.{Text}
use Rattle.dl_query.specs.declared.fault.QueryFault.{QueryFault}
use Rattle.dl_query.specs.Symbols.{Placed, AreTokens, is_last, front_of}
use Rattle.dl_query.specs.Grammar.{Met, nothing_met}
use Rattle.dl_query.specs.Steps.{Expected, query_word, Move, goes, refuses, ends, fault_of, move_of}

-- what reading gives: what is read to the end; the fault, and the names met before it; or the tokens end before that
pub data Outcome : Type 0 where
  gives : Met → Outcome
  fails : QueryFault → List Text → Outcome
  unfinished : Outcome

-- what comes of a move at a token, where reading goes on so
abbrev pub outcome_of : Met → Placed → (Expected → Met → Outcome) → Move → Outcome
outcome_of m t onward (goes e after) = onward e after
outcome_of m t onward (refuses cause) = fails (fault_of cause t.at) m.names
outcome_of m t onward ends = gives m

-- what reading the tokens gives, where this is expected first
abbrev pub outcome : Expected → Met → List Placed → Outcome
outcome e m [] = unfinished
outcome e m (t ∷ tokens) = outcome_of m t (λ e' m'. outcome e' m' tokens) (move_of e m t.symbol)

-- the same of the text of so many bytes, of which these are left
pub record HasOutcome (len : ℕ) (e : Expected) (m : Met) (bytes : List ℕ) (o : Outcome) : Type 0 where
  pub tokens : List Placed
  pub are : AreTokens len bytes tokens
  pub is : outcome e m tokens ≡ o

-- what reading a whole text gives, behind these names
abbrev pub TextHasOutcome : List ℕ → List Text → Outcome → Type 0
TextHasOutcome bytes names o = HasOutcome (length bytes) query_word (nothing_met names) bytes o

-- what stands behind the token that begins at an offset, or behind the byte that shows that none does
abbrev pub behind_token : List ℕ → ℕ → List ℕ
behind_token bytes at = (front_of (drop at bytes)).rest

-- the other text has the same bytes up to the end of that token, or up to the byte that shows that none begins. Where
-- the end of the text shows it, the other text ends there too
pub record IsSameUpTo (bytes : List ℕ) (at : ℕ) (other : List ℕ) : Type 0 where
  pub seen : List ℕ
  pub others : List ℕ
  pub is : bytes ≡ seen ++ behind_token bytes at
  pub other_is : other ≡ seen ++ others
  pub ends : is_last (front_of (drop at bytes)).symbol ≡ true → behind_token bytes at ≡ [] → others ≡ []
