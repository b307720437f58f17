-- What a reader of a query expects next, and what the next token does there. The grammar is LL(1) (Aho, Lam, Sethi,
-- Ullman: Compilers, 4.4): what is expected and the next token alone say how reading goes on, or that it can't.
use Rattle.std.specs.Prelude.{ℕ, Bool, not, if◌then◌else◌}
use Rattle.dl_names.specs.NameList.{Text, has_no_place}
use Rattle.dl_terms.specs.declared.query.Term.{Term}
use Rattle.dl_terms.specs.declared.query.Term.TheVariants.{Var, Name}
use Rattle.dl_terms.specs.declared.query.Atom.TheVariants.{Is, Link}
use Rattle.dl_query.specs.declared.fault.QueryFault.{QueryFault}
use Rattle.dl_query.specs.declared.fault.QueryFault.TheVariants.{Syntax, Reserved, TooManyNames}
use Rattle.dl_query.specs.declared.token.Mark.TheVariants.{QueryWord, Opening, Closing, Comma, Turnstile, Ending}
use Rattle.dl_query.specs.Symbols.{Symbol, mark, variable, iri}
use Rattle.dl_query.specs.Grammar.{Met, number_of, with_variable, name_at, with_name, with_head, with_atom}
use Rattle.dl_names.specs.Iris.{is_free, may_be_class}

pub data Expected : Type 0 where
  -- the word q, the ( behind it, a first variable of the head or ), a further one, what follows a variable of the head
  query_word : Expected
  head_opening : Expected
  head_first : Expected
  head_variable : Expected
  head_more : Expected
  -- the :- , an atom's class or role, what follows an atom
  head_end : Expected
  predicate : Expected
  body_more : Expected
  -- behind a predicate, by its place and whether it may be a role: the ( , a term, what follows it, a second term, and
  -- the )
  terms_opening : ℕ → Bool → Expected
  first_term : ℕ → Bool → Expected
  first_more : ℕ → Bool → Term → Expected
  second_term : ℕ → Term → Expected
  second_closing : ℕ → Term → Term → Expected

-- why reading can't go on
pub data Cause : Type 0 where
  syntax : Cause
  reserved : Cause
  too_many_names : Cause

-- the fault of a cause, at a token's offset
abbrev pub fault_of : Cause → ℕ → QueryFault
fault_of syntax at = Syntax at
fault_of reserved at = Reserved at
fault_of too_many_names at = TooManyNames at

-- what a token does: it fits, and this is expected then; reading can't go on; or the query ends there
pub data Move : Type 0 where
  goes : Expected → Met → Move
  refuses : Cause → Move
  ends : Move

-- a name, where the IRI may be one
abbrev pub name_move : (Text → Bool) → Met → Text → (ℕ → Expected) → Move
name_move allowed m text expected =
    if not (allowed text) then refuses reserved
    else if has_no_place m.names text then refuses too_many_names
    else goes (expected (name_at m text)) (with_name m text)

abbrev pub term_move : Met → Symbol → (Term → Expected) → Move
term_move m (variable x) expected = goes (expected (Var (number_of m x))) (with_variable m x)
term_move m (iri text) expected = name_move is_free m text (λ place. expected (Name place))
term_move m _ expected = refuses syntax

-- a second term, where the predicate may be a role
abbrev pub second_move : Bool → ℕ → Met → Term → Move
second_move is_role p m t = if is_role then goes (second_term p t) m else refuses reserved

abbrev pub move_of : Expected → Met → Symbol → Move
move_of query_word m (mark QueryWord) = goes head_opening m
move_of head_opening m (mark Opening) = goes head_first m
move_of head_first m (mark Closing) = goes head_end m
move_of head_first m (variable x) = goes head_more (with_head m x)
move_of head_variable m (variable x) = goes head_more (with_head m x)
move_of head_more m (mark Comma) = goes head_variable m
move_of head_more m (mark Closing) = goes head_end m
move_of head_end m (mark Turnstile) = goes predicate m
move_of predicate m (iri text) = name_move may_be_class m text (λ place. terms_opening place (is_free text))
move_of (terms_opening p is_role) m (mark Opening) = goes (first_term p is_role) m
move_of (first_term p is_role) m s = term_move m s (first_more p is_role)
move_of (first_more p is_role t) m (mark Comma) = second_move is_role p m t
move_of (first_more p is_role t) m (mark Closing) = goes body_more (with_atom m (Is p t))
move_of (second_term p t) m s = term_move m s (second_closing p t)
move_of (second_closing p t u) m (mark Closing) = goes body_more (with_atom m (Link p t u))
move_of body_more m (mark Comma) = goes predicate m
move_of body_more m (mark Ending) = ends
move_of _ m _ = refuses syntax
