-- The value of a query text, and its fault.
use Rattle.std.specs.Prelude.{◌≡◌, ℕ, ◌+◌, ◌≤◌, Bool, true, not, ◌||◌, nat_lt, nat_eq, List, length, Some, None, position}
use Rattle.std.specs.List.{list_any}
use Rattle.dl_names.specs.NameList.{Text, max_names}
use Rattle.dl_terms.specs.declared.query.Query.{Query}
use Rattle.dl_terms.specs.Queries.{body_variables, existential_variables, IsWellFormed}
use Rattle.dl_query.specs.declared.fault.QueryFault.{QueryFault}
use Rattle.dl_query.specs.declared.fault.QueryFault.TheVariants.{Unsafe, TooLarge}
use Rattle.dl_query.specs.Symbols.{Placed, AreTokens, symbols_of}
use Rattle.dl_query.specs.Grammar.{Met, IsQuery, query_of}
use Rattle.dl_query.specs.Reading.{fails, TextHasOutcome}

-- the text is of the grammar: this is read, behind these names
pub record IsText (bytes : List ℕ) (names : List Text) (m : Met) : Type 0 where
  pub tokens : List Placed
  pub are : AreTokens (length bytes) bytes tokens
  pub query : IsQuery names (symbols_of tokens) m

-- a variable is in the body
abbrev pub is_bound : Query → ℕ → Bool
is_bound q v = list_any (nat_eq v) (body_variables q)

-- over 16 atoms, 8 existential variables or 16 head places
abbrev pub is_too_large : Query → Bool
is_too_large q =
    nat_lt 16 (length q.atoms) || nat_lt 8 (length (existential_variables q)) || nat_lt 16 (length q.head)

-- the value of the text, behind these names, and the names after it: it is of the grammar, there is a place for each
-- name, and the query is well formed
pub record IsValue (bytes : List ℕ) (names : List Text) (q : Query) (after : List Text) : Type 0 where
  pub m : Met
  pub text : IsText bytes names m
  pub fits : length m.names ≤ max_names
  pub is : q ≡ query_of m
  pub named : after ≡ m.names
  pub well_formed : IsWellFormed q

-- the fault of a query that is read to its end
pub data QueryHasFault (q : Query) : QueryFault → Type 0 where
  -- the first place of the head, from 1, whose variable isn't in the body
  not_safe : {k : ℕ} → position (λ v. not (is_bound q v)) q.head ≡ Some k → QueryHasFault q (Unsafe (k + 1))
  -- where there is none: the numbers of atoms, existential variables and head places, over their limits
  too_large : position (λ v. not (is_bound q v)) q.head ≡ None → is_too_large q ≡ true
      → QueryHasFault q (TooLarge (length q.atoms) (length (existential_variables q)) (length q.head))

-- the fault of the text, behind these names, and the names after it
pub data HasFault (bytes : List ℕ) (names : List Text) : QueryFault → List Text → Type 0 where
  -- at the first token at which reading can't go on
  at_token : {fault : QueryFault} {after : List Text} → TextHasOutcome bytes names (fails fault after)
      → HasFault bytes names fault after
  -- of a text of the grammar with a place for each name
  of_query : {m : Met} {fault : QueryFault} → IsText bytes names m → length m.names ≤ max_names
      → QueryHasFault (query_of m) fault → HasFault bytes names fault m.names
