-- What reading reads is of the grammar.
use Rattle.std.proofs.Common.{◌≡◌, ℕ, zero, suc, ◌<◌, ◌≤◌, Bool, true, false, cond, not, List, [], ◌∷◌, length, refl, sym, ap, subst, ◌∙◌, arith}
use Rattle.dl_names.specs.NameList.{Text, max_names, has_no_place}
use Rattle.dl_terms.specs.declared.query.Term.{Term}
use Rattle.dl_terms.specs.declared.query.Term.TheVariants.{Var, Name}
use Rattle.dl_terms.specs.declared.query.Atom.TheVariants.{Is, Link}
use Rattle.dl_query.specs.declared.token.Mark.TheVariants.{QueryWord, Opening, Closing, Comma, Turnstile, Ending}
use Rattle.dl_query.specs.Symbols.{Symbol, mark, variable, iri, no_token}
use Rattle.dl_query.specs.Grammar.{Met, with_variable, number_of, with_name, name_at, with_head, with_atom, IsTerm, variable_term, name_term, AtomThen, class_atom, role_atom, IsBody, last_atom, more_atoms, VariablesThen, last_variable, more_variables, HeadThen, no_variable, some_variables, nothing_met, IsQuery}
use Rattle.dl_names.specs.Iris.{is_free, may_be_class}
use Rattle.dl_query.specs.Steps.{Expected, query_word, head_more, head_end, predicate, body_more, terms_opening, first_more, second_closing, reserved, too_many_names, goes, refuses, name_move, term_move, second_move}
use Rattle.dl_query.proofs.GrammarLemmas.{End, reads, stops, end_after, end_of, Fits, place-fits}

-- ---- names and terms

record Named (allowed : Text → Bool) (m : Met) (text : Text) (there after : End) : Type 0 where
  is_allowed : allowed text ≡ true
  fits : Fits m → Fits (with_name m text)
  on : there ≡ after

module _ (allowed : Text → Bool) (m : Met) (text : Text) (expected : ℕ → Expected) (onward : Expected → Met → End) (after : Met) where
  name-read : end_after m onward (name_move allowed m text expected) ≡ reads after
      → Named allowed m text (onward (expected (name_at m text)) (with_name m text)) (reads after)
  name-read h = by (allowed text) refl (has_no_place m.names text) refl
    where
      by : (a : Bool) → allowed text ≡ a → (b : Bool) → has_no_place m.names text ≡ b
          → Named allowed m text (onward (expected (name_at m text)) (with_name m text)) (reads after)
      by false e b f =
          let stop : end_after m onward (name_move allowed m text expected) ≡ stops reserved =
          ap (λ a. end_after m onward (cond (not a) (refuses reserved) (cond (has_no_place m.names text) (refuses too_many_names) (goes (expected (name_at m text)) (with_name m text))))) e
          in
          absurd (cc)
      by true e true f =
          let stop : end_after m onward (name_move allowed m text expected) ≡ stops too_many_names =
          (λ i. end_after m onward (cond (not (e i)) (refuses reserved) (cond (f i) (refuses too_many_names) (goes (expected (name_at m text)) (with_name m text)))))
          in
          absurd (cc)
      by true e false f = record {
        is_allowed = e;
        fits = place-fits m.names text f;
        on = sym (λ i. end_after m onward (cond (not (e i)) (refuses reserved) (cond (f i) (refuses too_many_names) (goes (expected (name_at m text)) (with_name m text))))) ∙ h;
      }

record ReadsTerm (m : Met) (s : Symbol) (there : Term → Met → End) (after : End) : Type 0 where
  t : Term
  one : Met
  is : IsTerm m s t one
  fits : Fits m → Fits one
  on : there t one ≡ after

term-read : (m : Met) (s : Symbol) (expected : Term → Expected) (onward : Expected → Met → End) (after : Met)
    → end_after m onward (term_move m s expected) ≡ reads after → ReadsTerm m s (λ t one. onward (expected t) one) (reads after)
term-read m (variable x) expected onward after h =
    record { t = Var (number_of m x); one = with_variable m x; is = variable_term; fits = λ fits. fits; on = h }
term-read m (iri text) expected onward after h =
    let named = name-read is_free m text (λ place. expected (Name place)) onward after h in
    record { t = Name (name_at m text); one = with_name m text; is = name_term named.is_allowed; fits = named.fits; on = named.on }
term-read m (mark k) expected onward after h = absurd (cc)
term-read m no_token expected onward after h = absurd (cc)

-- ---- an atom

record ReadsAtom (m : Met) (symbols : List Symbol) (after : Met) : Type 0 where
  rest : List Symbol
  one : Met
  atom : AtomThen m symbols rest one
  fits : Fits m → Fits one
  shorter : length rest < length symbols
  on : end_of body_more one rest ≡ reads after

module _ (m after : Met) (c : Text) where
  second_read : (free : is_free c ≡ true) (fits : Fits m → Fits (with_name m c)) (s s' : Symbol) (t u : Term) (one two : Met)
      → IsTerm (with_name m c) s t one → (Fits (with_name m c) → Fits one) → IsTerm one s' u two → (Fits one → Fits two)
      → (symbols : List Symbol) → end_of (second_closing (name_at m c) t u) two symbols ≡ reads after
      → ReadsAtom m (iri c ∷ mark Opening ∷ s ∷ mark Comma ∷ s' ∷ symbols) after
  second_read free fits s s' t u one two is_t fits_t is_u fits_u (mark Closing ∷ symbols) h = record {
    rest = symbols;
    one = with_atom two (Link (name_at m c) t u);
    atom = role_atom free is_t is_u;
    fits = λ f. fits_u (fits_t (fits f));
    shorter = omega arith;
    on = h;
  }
  second_read free fits s s' t u one two is_t fits_t is_u fits_u _ h = absurd (cc)

  first_read : may_be_class c ≡ true → (fits : Fits m → Fits (with_name m c)) (s : Symbol) (t : Term) (one : Met)
      → IsTerm (with_name m c) s t one → (Fits (with_name m c) → Fits one)
      → (symbols : List Symbol) → end_of (first_more (name_at m c) (is_free c) t) one symbols ≡ reads after
      → ReadsAtom m (iri c ∷ mark Opening ∷ s ∷ symbols) after
  first_read may fits s t one is_t fits_t (mark Closing ∷ symbols) h = record {
    rest = symbols;
    one = with_atom one (Is (name_at m c) t);
    atom = class_atom may is_t;
    fits = λ f. fits_t (fits f);
    shorter = omega arith;
    on = h;
  }
  first_read may fits s t one is_t fits_t (mark Comma ∷ symbols) h = by (is_free c) refl symbols h
    where
      by : (b : Bool) → is_free c ≡ b → (symbols : List Symbol)
          → end_after one (λ e' m'. end_of e' m' symbols) (second_move b (name_at m c) one t) ≡ reads after
          → ReadsAtom m (iri c ∷ mark Opening ∷ s ∷ mark Comma ∷ symbols) after
      by false e symbols h = absurd (cc)
      by true e [] h = absurd (cc)
      by true e (s' ∷ symbols) h =
          let second = term-read one s' (second_closing (name_at m c) t) (λ e' m'. end_of e' m' symbols) after h in
          second_read e fits s s' t second.t one second.one is_t fits_t second.is second.fits symbols second.on
  first_read may fits s t one is_t fits_t _ h = absurd (cc)

  opened_read : may_be_class c ≡ true → (Fits m → Fits (with_name m c))
      → (symbols : List Symbol) → end_of (terms_opening (name_at m c) (is_free c)) (with_name m c) symbols ≡ reads after
      → ReadsAtom m (iri c ∷ symbols) after
  opened_read may fits (mark Opening ∷ s ∷ symbols) h =
      let first = term-read (with_name m c) s (first_more (name_at m c) (is_free c)) (λ e' m'. end_of e' m' symbols) after h in
      first_read may fits s first.t first.one first.is first.fits symbols first.on
  opened_read may fits _ h = absurd (cc)

atom-read : (m after : Met) (symbols : List Symbol) → end_of predicate m symbols ≡ reads after → ReadsAtom m symbols after
atom-read m after (iri c ∷ symbols) h =
    let named = name-read may_be_class m c (λ place. terms_opening place (is_free c)) (λ e' m'. end_of e' m' symbols) after h in
    opened_read m after c named.is_allowed named.fits symbols named.on
atom-read m after _ h = absurd (cc)

-- ---- the body

record ReadsBody (m : Met) (symbols : List Symbol) (after : Met) : Type 0 where
  body : IsBody m symbols after
  fits : Fits m → Fits after

body-read : (n : ℕ) (m after : Met) (symbols : List Symbol) → length symbols ≤ n → end_of predicate m symbols ≡ reads after → ReadsBody m symbols after
body-read zero m after [] l h = absurd (cc)
body-read zero m after (s ∷ symbols) l h = absurd (omega (arith, l))
body-read (suc n) m after symbols l h =
    let first = atom-read m after symbols h in
    by first.one first.rest first.atom first.fits first.shorter first.on (λ one others. body-read n one after others)
  where
    by : (one : Met) (rest : List Symbol) → AtomThen m symbols rest one → (Fits m → Fits one) → length rest < length symbols
        → end_of body_more one rest ≡ reads after
        → ((one : Met) (others : List Symbol) → length others ≤ n → end_of predicate one others ≡ reads after → ReadsBody one others after)
        → ReadsBody m symbols after
    by one (mark Ending ∷ rest) atom fits shorter on later =
        let same : one ≡ after = cc in
        record {
          body = subst (λ a. IsBody m symbols a) same (last_atom atom);
          fits = λ f. subst Fits same (fits f);
        }
    by one (mark Comma ∷ others) atom fits shorter on later =
        let rest = later one others (omega (arith, shorter, l)) on in
        record { body = more_atoms atom rest.body; fits = λ f. rest.fits (fits f) }
    by one _ atom fits shorter on later = absurd (cc)

-- ---- the head and the whole

record ReadsHead (m : Met) (symbols : List Symbol) (after : Met) : Type 0 where
  rest : List Symbol
  one : Met
  variables : VariablesThen m symbols rest one
  same : one.names ≡ m.names
  on : end_of head_end one rest ≡ reads after

-- a variable, and what follows it
variables-read : (m after : Met) (x : Text) (symbols : List Symbol) → end_of head_more (with_head m x) symbols ≡ reads after
    → ReadsHead m (variable x ∷ symbols) after
variables-read m after x (mark Closing ∷ rest) h =
    record { rest = rest; one = with_head m x; variables = last_variable; same = refl; on = h }
variables-read m after x (mark Comma ∷ variable y ∷ symbols) h =
    let others = variables-read (with_head m x) after y symbols h in
    record { rest = others.rest; one = others.one; variables = more_variables others.variables; same = others.same; on = others.on }
variables-read m after x _ h = absurd (cc)

pub record ReadsQuery (names : List Text) (symbols : List Symbol) (after : Met) : Type 0 where
  pub query : IsQuery names symbols after
  pub fits : length names ≤ max_names → Fits after

module _ (names : List Text) (after : Met) where
  tail-read : (head rest : List Symbol) (middle : Met) → HeadThen (nothing_met names) head rest middle → middle.names ≡ names
      → end_of head_end middle rest ≡ reads after → ReadsQuery names (mark QueryWord ∷ mark Opening ∷ head) after
  tail-read head (mark Turnstile ∷ rest) middle in_head same h =
      let body = body-read (length rest) middle after rest (omega arith) h in
      record {
        query = record { head = head; body = rest; middle = middle; is = refl; in_head = in_head; in_body = body.body };
        fits = λ f. body.fits (subst (λ l. length l ≤ max_names) (sym same) f);
      }
  tail-read head _ middle in_head same h = absurd (cc)

  pub query-read : (symbols : List Symbol) → end_of query_word (nothing_met names) symbols ≡ reads after → ReadsQuery names symbols after
  query-read (mark QueryWord ∷ mark Opening ∷ mark Closing ∷ rest) h =
      tail-read (mark Closing ∷ rest) rest (nothing_met names) no_variable refl h
  query-read (mark QueryWord ∷ mark Opening ∷ variable x ∷ symbols) h =
      let head = variables-read (nothing_met names) after x symbols h in
      tail-read (variable x ∷ symbols) head.rest head.one (some_variables head.variables) head.same head.on
  query-read _ h = absurd (cc)
