-- Reading on: what a token that is passed over does, and what a fault behind it is.
use Rattle.std.proofs.Common.{◌≡◌, ◌≢◌, ℕ, Bool, true, false, cond, not, List, refl, sym, ap, subst}
use Rattle.dl_names.specs.NameList.{Text, has_no_place}
use Rattle.dl_terms.specs.declared.query.Term.{Term}
use Rattle.dl_query.specs.declared.fault.QueryFault.{QueryFault}
use Rattle.dl_query.specs.declared.fault.QueryFault.TheVariants as faults
use Rattle.dl_query.specs.declared.token.Mark.TheVariants.{QueryWord, Opening, Closing, Comma, Turnstile, Ending}
use Rattle.dl_query.specs.declared.tokens.Tokens.{Tokens}
use Rattle.dl_query.specs.Symbols.{Symbol, mark, variable, iri}
use Rattle.dl_query.specs.Grammar.{Met, with_name, name_at}
use Rattle.dl_query.specs.Steps.{Expected, query_word, head_opening, head_first, head_variable, head_more, head_end, predicate, body_more, terms_opening, first_more, second_closing, Cause, syntax, reserved, too_many_names, fault_of, Move, goes, refuses, ends, name_move, term_move, move_of}
use Rattle.dl_query.specs.Reading.{gives, fails, HasOutcome}
use Rattle.dl_query.specs.Parts.{Passes, next_symbol, next_at, Gives, Leads, Stops}
use Rattle.dl_query.proofs.ReadingLemmas.{HasOutcome-goes, HasOutcome-refuses, HasOutcome-ends}

-- ---- one token

module _ (e : Expected) (m : Met) (old : Tokens) where
  -- it fits
  pub Leads-goes : {e' : Expected} {m' : Met} {new : Tokens} → move_of e m (next_symbol old) ≡ goes e' m' → Passes old new → Leads e m old e' m' new
  Leads-goes {e'} {m'} {new} move passes = record {
    onward = λ o has.
        HasOutcome-goes old.len e m old.rest.now e' m' o move
        (subst (λ bytes. HasOutcome old.len e' m' bytes o) passes.rest (subst (λ len. HasOutcome len e' m' new.rest.now o) passes.len has));
  }

  -- it is refused
  pub Stops-here : {cause : Cause} {fault : QueryFault} {names : List Text} → move_of e m (next_symbol old) ≡ refuses cause
      → fault ≡ fault_of cause (next_at old) → names ≡ m.names → Stops e m old fault names
  Stops-here {cause} move is same h =
      subst (λ f. Gives e m old f) (λ i. fails (sym is i) (sym same i)) (HasOutcome-refuses old.len e m old.rest.now cause move)

  -- the query ends there
  pub Gives-ends : move_of e m (next_symbol old) ≡ ends → Gives e m old (gives m)
  Gives-ends move = HasOutcome-ends old.len e m old.rest.now move

  -- no other fault than this is known
  pub no-fault : {fault : QueryFault} {names : List Text} → fault ≡ faults.NoMemory → Stops e m old fault names
  no-fault is h = absurd (h is)

-- ---- several

module _ {e e' : Expected} {m m' : Met} {old new : Tokens} (leads : Leads e m old e' m' new) where
  pub Leads-then : {e'' : Expected} {m'' : Met} {newer : Tokens} → Leads e' m' new e'' m'' newer → Leads e m old e'' m'' newer
  Leads-then second = record { onward = λ o has. leads.onward o (second.onward o has) }

  pub Leads-stops : (fault : QueryFault) (names : List Text) → Stops e' m' new fault names → Stops e m old fault names
  Leads-stops fault names stops h = leads.onward (fails fault names) (stops h)

-- ---- tokens that do not fit

module _ (m : Met) where
  pub other-query_word : (s : Symbol) → s ≢ mark QueryWord → move_of query_word m s ≡ refuses syntax
  other-query_word (mark QueryWord) h = absurd (h refl)
  other-query_word _ h = refl

  pub other-head_opening : (s : Symbol) → s ≢ mark Opening → move_of head_opening m s ≡ refuses syntax
  other-head_opening (mark Opening) h = absurd (h refl)
  other-head_opening _ h = refl

  pub other-head_first : (s : Symbol) → s ≢ mark Closing → ((x : Text) → s ≢ variable x) → move_of head_first m s ≡ refuses syntax
  other-head_first (mark Closing) h k = absurd (h refl)
  other-head_first (variable x) h k = absurd (k x refl)
  other-head_first _ h k = refl

  pub other-head_variable : (s : Symbol) → ((x : Text) → s ≢ variable x) → move_of head_variable m s ≡ refuses syntax
  other-head_variable (variable x) k = absurd (k x refl)
  other-head_variable _ k = refl

  pub other-head_more : (s : Symbol) → s ≢ mark Comma → s ≢ mark Closing → move_of head_more m s ≡ refuses syntax
  other-head_more (mark Comma) h k = absurd (h refl)
  other-head_more (mark Closing) h k = absurd (k refl)
  other-head_more _ h k = refl

  pub other-head_end : (s : Symbol) → s ≢ mark Turnstile → move_of head_end m s ≡ refuses syntax
  other-head_end (mark Turnstile) h = absurd (h refl)
  other-head_end _ h = refl

  pub other-predicate : (s : Symbol) → ((x : Text) → s ≢ iri x) → move_of predicate m s ≡ refuses syntax
  other-predicate (iri x) k = absurd (k x refl)
  other-predicate _ k = refl

  pub other-body_more : (s : Symbol) → s ≢ mark Comma → s ≢ mark Ending → move_of body_more m s ≡ refuses syntax
  other-body_more (mark Comma) h k = absurd (h refl)
  other-body_more (mark Ending) h k = absurd (k refl)
  other-body_more _ h k = refl

  pub other-terms_opening : (p : ℕ) (r : Bool) (s : Symbol) → s ≢ mark Opening → move_of (terms_opening p r) m s ≡ refuses syntax
  other-terms_opening p r (mark Opening) h = absurd (h refl)
  other-terms_opening p r _ h = refl

  pub other-first_more : (p : ℕ) (r : Bool) (t : Term) (s : Symbol) → s ≢ mark Comma → s ≢ mark Closing → move_of (first_more p r t) m s ≡ refuses syntax
  other-first_more p r t (mark Comma) h k = absurd (h refl)
  other-first_more p r t (mark Closing) h k = absurd (k refl)
  other-first_more p r t _ h k = refl

  pub other-second_closing : (p : ℕ) (t u : Term) (s : Symbol) → s ≢ mark Closing → move_of (second_closing p t u) m s ≡ refuses syntax
  other-second_closing p t u (mark Closing) h = absurd (h refl)
  other-second_closing p t u _ h = refl

  -- a term that does not begin
  pub other-term : (s : Symbol) (expected : Term → Expected) → ((x : Text) → s ≢ variable x) → ((x : Text) → s ≢ iri x) → term_move m s expected ≡ refuses syntax
  other-term (variable x) expected h k = absurd (h x refl)
  other-term (iri x) expected h k = absurd (k x refl)
  other-term _ expected h k = refl

  -- ---- names

  module _ (allowed : Text → Bool) (text : Text) (expected : ℕ → Expected) where
    abbrev named : Bool → Bool → Move
    named a b = cond (not a) (refuses reserved) (cond b (refuses too_many_names) (goes (expected (name_at m text)) (with_name m text)))

    pub name-goes : allowed text ≡ true → has_no_place m.names text ≡ false → name_move allowed m text expected ≡ goes (expected (name_at m text)) (with_name m text)
    name-goes a b = λ i. named (a i) (b i)

    pub name-reserved : allowed text ≡ false → name_move allowed m text expected ≡ refuses reserved
    name-reserved a = ap (λ x. named x (has_no_place m.names text)) a

    pub name-full : allowed text ≡ true → has_no_place m.names text ≡ true → name_move allowed m text expected ≡ refuses too_many_names
    name-full a b = λ i. named (a i) (b i)
