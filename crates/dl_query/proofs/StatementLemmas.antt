-- Reading an atom.
use Rattle.std.proofs.Common.{◌≡◌, ◌≢◌, ℕ, ◌<◌, ◌≤◌, Bool, true, false, not, ◌&&◌, List, length, refl, sym, ap, subst, ◌∙◌, true≢false, arith, Bor}
use Rattle.std.proofs.lemmas.Bool.{le-leb}
use Rattle.dl_names.specs.NameList.{Text, max_names, has_name, names_after, place_of, Extends, has_no_place}
use Rattle.dl_names.proofs.NameListLemmas.{Extends-names_after, Extends-same}
use Rattle.dl_query.specs.declared.token.Token.{Token}
use Rattle.dl_query.specs.declared.token.Token.TheVariants as tokens
use Rattle.dl_query.proofs.NumberLemmas.{number-below, variables-grow}
use Rattle.dl_query.proofs.GrammarLemmas.{no_place-over}
use Rattle.dl_terms.specs.declared.query.Term.{Term}
use Rattle.dl_terms.specs.declared.query.Term.TheVariants.{Var, Name}
use Rattle.dl_terms.specs.declared.query.Atom.{Atom}
use Rattle.dl_terms.specs.declared.query.Atom.TheVariants.{Is, Link}
use Rattle.dl_query.specs.declared.fault.QueryFault.{QueryFault}
use Rattle.dl_query.specs.declared.fault.QueryFault.TheVariants as faults
use Rattle.dl_query.specs.declared.token.Mark.TheVariants.{Opening, Closing, Comma}
use Rattle.dl_query.specs.declared.tokens.Tokens.{Tokens}
use Rattle.dl_query.specs.Symbols.{Symbol, mark, variable, iri}
use Rattle.dl_query.specs.Grammar.{Met, met, with_atom}
use Rattle.dl_names.specs.Iris.{is_free, may_be_class}
use Rattle.dl_query.specs.Steps.{Expected, predicate, body_more, terms_opening, first_term, first_more, second_term, second_closing, reserved, too_many_names, goes, name_move, term_move, second_move, move_of}
use Rattle.dl_query.specs.Parts.{Passes, next_symbol, next_at, Leads, Stops, Refuses, symbol_of}
use Rattle.dl_query.proofs.StepLemmas.{Leads-goes, Leads-then, Leads-stops, Stops-here, name-goes, name-reserved, name-full}

-- ---- a class or role

module _ (t : Tokens) (text : Text) (is_iri : next_symbol t ≡ iri text) (names : List Text) where
  -- its move
  predicate-move : (m : Met) → move_of predicate m (next_symbol t) ≡ name_move may_be_class m text (λ place. terms_opening place (is_free text))
  predicate-move m = ap (move_of predicate m) is_iri

  pub predicate-leads : (t' : Tokens) (names' : List Text) (place : ℕ) (is_role : Bool) → Passes t t' → may_be_class text ≡ true → has_no_place names text ≡ false
      → names' ≡ names_after names text → place ≡ place_of (names_after names text) text → is_role ≡ is_free text
      → (variables : List Text) (head : List ℕ) (atoms : List Atom)
      → Leads predicate (met variables names head atoms) t (terms_opening place is_role) (met variables names' head atoms) t'
  predicate-leads t' names' place is_role passes may room named at role variables head atoms =
      Leads-goes predicate (met variables names head atoms) t {e' = terms_opening place is_role} {m' = met variables names' head atoms} {new = t'}
      (predicate-move (met variables names head atoms)
      ∙ name-goes (met variables names head atoms) may_be_class text (λ place. terms_opening place (is_free text)) may room
      ∙ (λ i. goes (terms_opening (sym at i) (sym role i)) (met variables (sym named i) head atoms)))
      passes

  pub predicate-reserved : (fault : QueryFault) (names' : List Text) → may_be_class text ≡ false → fault ≡ faults.Reserved (next_at t) → names' ≡ names
      → (variables : List Text) (head : List ℕ) (atoms : List Atom) → Stops predicate (met variables names head atoms) t fault names'
  predicate-reserved fault names' may is kept variables head atoms =
      Stops-here predicate (met variables names head atoms) t
      (predicate-move (met variables names head atoms) ∙ name-reserved (met variables names head atoms) may_be_class text (λ place. terms_opening place (is_free text)) may)
      is kept

  pub predicate-full : (fault : QueryFault) (names' : List Text) → may_be_class text ≡ true
      → (fault ≢ faults.NoMemory → (fault ≡ faults.TooManyNames (next_at t)) × (has_no_place names text ≡ true)) → names' ≡ names
      → (variables : List Text) (head : List ℕ) (atoms : List Atom) → Stops predicate (met variables names head atoms) t fault names'
  predicate-full fault names' may full kept variables head atoms h =
      Stops-here predicate (met variables names head atoms) t
      (predicate-move (met variables names head atoms) ∙ name-full (met variables names head atoms) may_be_class text (λ place. terms_opening place (is_free text)) may (full h).1)
      (full h).0 kept h

-- ---- a term

module _ (s : Symbol) (text : Text) (is_iri : s ≡ iri text) (variables names : List Text) (head : List ℕ) (atoms : List Atom) (expected : Term → Expected) where
  iri-move : term_move (met variables names head atoms) s expected ≡ name_move is_free (met variables names head atoms) text (λ place. expected (Name place))
  iri-move = ap (λ x. term_move (met variables names head atoms) x expected) is_iri

  pub iri-goes : (names' : List Text) (place : ℕ) → is_free text ≡ true → has_no_place names text ≡ false → names' ≡ names_after names text
      → place ≡ place_of (names_after names text) text
      → term_move (met variables names head atoms) s expected ≡ goes (expected (Name place)) (met variables names' head atoms)
  iri-goes names' place free room named at =
      iri-move ∙ name-goes (met variables names head atoms) is_free text (λ place. expected (Name place)) free room
      ∙ (λ i. goes (expected (Name (sym at i))) (met variables (sym named i) head atoms))

  pub iri-reserved : (at : ℕ) (fault : QueryFault) → is_free text ≡ false → fault ≡ faults.Reserved at
      → Refuses (term_move (met variables names head atoms) s expected) at fault
  iri-reserved at fault free is h =
      (reserved, is, iri-move ∙ name-reserved (met variables names head atoms) is_free text (λ place. expected (Name place)) free)

  pub iri-full : (at : ℕ) (fault : QueryFault) → is_free text ≡ true
      → (fault ≢ faults.NoMemory → (fault ≡ faults.TooManyNames at) × (has_no_place names text ≡ true))
      → Refuses (term_move (met variables names head atoms) s expected) at fault
  iri-full at fault free full h =
      (too_many_names, (full h).0, iri-move ∙ name-full (met variables names head atoms) is_free text (λ place. expected (Name place)) free (full h).1)

-- a variable
pub variable-goes : (s : Symbol) (x : Text) → s ≡ variable x → (variables variables' names : List Text) (n : ℕ) → variables' ≡ names_after variables x
    → n ≡ place_of (names_after variables x) x → (head : List ℕ) (atoms : List Atom) (expected : Term → Expected)
    → term_move (met variables names head atoms) s expected ≡ goes (expected (Var n)) (met variables' names head atoms)
variable-goes s x is variables variables' names n met_is n_is head atoms expected =
    ap (λ y. term_move (met variables names head atoms) y expected) is
    ∙ (λ i. goes (expected (Var (sym n_is i))) (met (sym met_is i) names head atoms))

-- ---- an atom

-- a fault at a term
pub term-stops : (e : Expected) (m : Met) (t : Tokens) (fault : QueryFault) (names' : List Text) → Refuses (move_of e m (next_symbol t)) (next_at t) fault → names' ≡ m.names
    → Stops e m t fault names'
term-stops e m t fault names' refused kept h =
    let r = refused h in Stops-here e m t r.2 r.1 kept h

-- the ( and a term
pub first-leads : {e : Expected} {m m1 m2 : Met} {t0 t1 t2 t3 : Tokens} {place : ℕ} {is_role : Bool} {t : Term} → Leads e m t0 (terms_opening place is_role) m1 t1
    → next_symbol t1 ≡ mark Opening → Passes t1 t2 → term_move m1 (next_symbol t2) (first_more place is_role) ≡ goes (first_more place is_role t) m2 → Passes t2 t3
    → Leads e m t0 (first_more place is_role t) m2 t3
first-leads {m1 = m1} {m2} {t1 = t1} {t2} {t3} {place} {is_role} {t} leads opened p1 term p2 =
    Leads-then leads
    (Leads-then (Leads-goes (terms_opening place is_role) m1 t1 {e' = first_term place is_role} {m' = m1} {new = t2} (ap (move_of (terms_opening place is_role) m1) opened) p1)
    (Leads-goes (first_term place is_role) m1 t2 {e' = first_more place is_role t} {m' = m2} {new = t3} term p2))

-- the ) behind one
pub class-leads : {e : Expected} {m m2 : Met} {t0 t3 t4 : Tokens} {place : ℕ} {is_role : Bool} {t : Term} → Leads e m t0 (first_more place is_role t) m2 t3
    → next_symbol t3 ≡ mark Closing → Passes t3 t4 → Leads e m t0 body_more (with_atom m2 (Is place t)) t4
class-leads {m2 = m2} {t3 = t3} {t4} {place} {is_role} {t} leads closed p =
    Leads-then leads (Leads-goes (first_more place is_role t) m2 t3 {e' = body_more} {m' = with_atom m2 (Is place t)} {new = t4} (ap (move_of (first_more place is_role t) m2) closed) p)

-- the comma behind one
pub comma-leads : {e : Expected} {m m2 : Met} {t0 t3 t4 : Tokens} {place : ℕ} {is_role : Bool} {t : Term} → Leads e m t0 (first_more place is_role t) m2 t3
    → next_symbol t3 ≡ mark Comma → is_role ≡ true → Passes t3 t4 → Leads e m t0 (second_term place t) m2 t4
comma-leads {m2 = m2} {t3 = t3} {t4} {place} {is_role} {t} leads comma role p =
    Leads-then leads
    (Leads-goes (first_more place is_role t) m2 t3 {e' = second_term place t} {m' = m2} {new = t4}
    (ap (move_of (first_more place is_role t) m2) comma ∙ ap (λ b. second_move b place m2 t) role) p)

pub comma-stops : {e : Expected} {m m2 : Met} {t0 t3 : Tokens} {place : ℕ} {is_role : Bool} {t : Term} → Leads e m t0 (first_more place is_role t) m2 t3
    → next_symbol t3 ≡ mark Comma → is_role ≡ false → (fault : QueryFault) → fault ≡ faults.Reserved (next_at t3) → Stops e m t0 fault m2.names
comma-stops {m2 = m2} {t3 = t3} {place} {is_role} {t} leads comma role fault is =
    Leads-stops leads fault m2.names
    (Stops-here (first_more place is_role t) m2 t3 {cause = reserved} (ap (move_of (first_more place is_role t) m2) comma ∙ ap (λ b. second_move b place m2 t) role) is refl)

-- a second term and the )
pub role-leads : {e : Expected} {m m2 m3 : Met} {t0 t4 t5 : Tokens} {place : ℕ} {t u : Term} → Leads e m t0 (second_term place t) m2 t4
    → term_move m2 (next_symbol t4) (second_closing place t) ≡ goes (second_closing place t u) m3 → Passes t4 t5
    → Leads e m t0 (second_closing place t u) m3 t5
role-leads {m2 = m2} {m3} {t4 = t4} {t5} {place = place} {t} {u} leads term p =
    Leads-then leads (Leads-goes (second_term place t) m2 t4 {e' = second_closing place t u} {m' = m3} {new = t5} term p)

pub closed-leads : {e : Expected} {m m3 : Met} {t0 t5 t6 : Tokens} {place : ℕ} {t u : Term} → Leads e m t0 (second_closing place t u) m3 t5
    → next_symbol t5 ≡ mark Closing → Passes t5 t6 → Leads e m t0 body_more (with_atom m3 (Link place t u)) t6
closed-leads {m3 = m3} {t5 = t5} {t6} {place} {t} {u} leads closed p =
    Leads-then leads (Leads-goes (second_closing place t u) m3 t5 {e' = body_more} {m' = with_atom m3 (Link place t u)} {new = t6} (ap (move_of (second_closing place t u) m3) closed) p)

-- ---- places

-- a name that got a place had one
pub place-room : (names after : List Text) (text : Text) → after ≡ names_after names text → length after ≤ max_names → has_no_place names text ≡ false
place-room names after text is fits = by (has_no_place names text) refl
  where
    by : (b : Bool) → has_no_place names text ≡ b → b ≡ false
    by false e = refl
    by true e = absurd (omega (arith, fits, ap length is, no_place-over names text e))

-- a full set has no place for another
pub place-full : (names : List Text) (text : Text) → length names ≡ max_names → has_name names text ≡ false → has_no_place names text ≡ true
place-full names text full new = λ i. not (new i) && le-leb max_names (length names) (omega (arith, full)) i

-- ---- other tokens

pub not-iri : (t : Token) → ((x : Bor (List ℕ)) → t ≡ tokens.Iri x → ⊥) → (text : Text) → symbol_of t ≢ iri text
not-iri (tokens.Mark k) other text h = cc
not-iri (tokens.Variable x) other text h = cc
not-iri (tokens.Iri x) other text h = other x refl
not-iri tokens.Nothing other text h = cc

pub not-variable : (t : Token) → ((x : Bor (List ℕ)) → t ≡ tokens.Variable x → ⊥) → (x : Text) → symbol_of t ≢ variable x
not-variable (tokens.Mark k) other x h = cc
not-variable (tokens.Variable x) other y h = other x refl
not-variable (tokens.Iri x) other y h = cc
not-variable tokens.Nothing other y h = cc

pub variable-below : (variables variables' : List Text) (x : Text) (n : ℕ) → variables' ≡ names_after variables x → n ≡ place_of (names_after variables x) x → n < length variables'
variable-below variables variables' x n met_is n_is = omega (arith, ap length met_is, n_is, number-below variables x)

pub variable-more : (variables variables' : List Text) (x : Text) → variables' ≡ names_after variables x → length variables ≤ length variables'
variable-more variables variables' x met_is = omega (arith, ap length met_is, variables-grow variables x)

pub named-grows : (names names' : List Text) (text : Text) → names' ≡ names_after names text → Extends names names'
named-grows names names' text is = subst (λ l. Extends names l) (sym is) (Extends-names_after names text)

pub kept-grows : (names names' : List Text) → names' ≡ names → Extends names names'
kept-grows names names' is = subst (λ l. Extends names l) (sym is) (Extends-same names)

pub is-true : (b : Bool) → not b ≡ false → b ≡ true
is-true true h = refl
is-true false h = absurd (true≢false h)

pub is-false : (b : Bool) → not b ≡ true → b ≡ false
is-false false h = refl
is-false true h = absurd (true≢false (sym h))
