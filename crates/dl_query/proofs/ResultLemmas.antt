-- A text has one value or one fault.
use Rattle.std.proofs.Common.{◌≡◌, ℕ, ◌+◌, ◌<◌, ◌≤◌, ◌⊎◌, inl, inr, Bool, true, false, cond, not, ◌||◌, nat_lt, List, length, get_or, Option, Some, None, position, refl, sym, ap, subst, ◌∙◌, true≢false, arith}
use Rattle.std.specs.List.{list_any, position_or_len}
use Rattle.std.specs.Cmp.{nat_eq_equiv}
use Rattle.std.proofs.lemmas.Bool.{lt-ltb, ltb-true, ltb-false, le-ltb, eqb-true}
use Rattle.std.proofs.lemmas.Option.{cond_some}
use Rattle.std.proofs.lemmas.List.Elements.{All-from_recursion}
use Rattle.std.proofs.lemmas.List.Folds.{list_any_at}
use Rattle.std.proofs.lemmas.Map.Views.{Contains-from_any, list_any-from_Contains}
use Rattle.dl_names.specs.NameList.{Text, max_names}
use Rattle.dl_names.proofs.NameListLemmas.{position_or_len-lt, position_or_len-passes, position_or_len-none}
use Rattle.dl_terms.specs.declared.query.Query.{Query}
use Rattle.dl_terms.specs.Queries.{body_variables, existential_variables, IsWellFormed}
use Rattle.dl_query.specs.declared.fault.QueryFault.{QueryFault}
use Rattle.dl_query.specs.declared.fault.QueryFault.TheVariants.{TooManyNames, Unsafe, TooLarge}
use Rattle.dl_query.specs.Symbols.{symbols_of}
use Rattle.dl_query.specs.Grammar.{Met, nothing_met, query_of}
use Rattle.dl_query.specs.Steps.{query_word, too_many_names, fault_of}
use Rattle.dl_query.specs.Reading.{Outcome, gives, fails, unfinished, outcome, TextHasOutcome}
use Rattle.dl_query.specs.Queries.{IsText, is_bound, is_too_large, IsValue, QueryHasFault, not_safe, too_large, HasFault, at_token, of_query}
use Rattle.dl_query.specs.Parts.{IsNumbered}
use Rattle.dl_query.proofs.ReadingLemmas.{HasOutcome-one, HasOutcome-some, outcome-finished}
use Rattle.dl_query.proofs.GrammarLemmas.{reads, stops, end_of, Agrees, outcome-agrees, Runs, runs_on, runs_out, query-runs, query-grows}
use Rattle.dl_query.proofs.ReadLemmas.{query-read}
use Rattle.dl_query.proofs.NumberLemmas.{query-numbered}

-- ---- the first element that passes

module _ {X : Type 0} (p : X → Bool) (xs : List X) where
  none-passes : position p xs ≡ None → list_any p xs ≡ false
  none-passes h = by (list_any p xs) refl
    where
      by : (b : Bool) → list_any p xs ≡ b → b ≡ false
      by false e = refl
      by true e =
          let found : position p xs ≡ Some (position_or_len p xs) =
          ap (λ b. cond b (Some (position_or_len p xs)) None) (lt-ltb _ _ (position_or_len-lt p xs e))
          in
          absurd (cc)

  -- none of them
  pub fails-each : position p xs ≡ None → (k : ℕ) (d : X) → k < length xs → p (get_or xs k d) ≡ false
  fails-each h k d within = by (p (get_or xs k d)) refl
    where
      by : (b : Bool) → p (get_or xs k d) ≡ b → b ≡ false
      by false e = refl
      by true e = absurd (true≢false (sym (list_any_at p xs k d within e) ∙ none-passes h))

  -- the one at the index
  pub found-passes : (k : ℕ) (d : X) → position p xs ≡ Some k → (k < length xs) × (p (get_or xs k d) ≡ true)
  found-passes k d h =
      let both = cond_some _ _ _ h in
      let within = ltb-true _ _ both.0 in
      (subst (λ n. n < length xs) both.1 within, subst (λ n. p (get_or xs n d) ≡ true) both.1 (passes (list_any p xs) refl within))
    where
      passes : (b : Bool) → list_any p xs ≡ b → position_or_len p xs < length xs → p (get_or xs (position_or_len p xs) d) ≡ true
      passes true e within = position_or_len-passes p xs d e
      passes false e within = absurd (omega (arith, within, position_or_len-none p xs e))

-- ---- well-formed queries

not-false : (b : Bool) → not b ≡ false → b ≡ true
not-false true h = refl
not-false false h = absurd (true≢false h)

not-true : (b : Bool) → not b ≡ true → b ≡ false
not-true false h = refl
not-true true h = absurd (true≢false (sym h))

or-none : (a b : Bool) → (a || b) ≡ false → (a ≡ false) × (b ≡ false)
or-none false b h = (refl, h)
or-none true b h = absurd (true≢false h)

pub well-formed : (m : Met) → IsNumbered m → position (λ v. not (is_bound (query_of m) v)) m.head ≡ None → is_too_large (query_of m) ≡ false
    → IsWellFormed (query_of m)
well-formed m numbered safe small =
    let q = query_of m in
    let first = or-none (nat_lt 16 (length q.atoms) || nat_lt 8 (length (existential_variables q))) (nat_lt 16 (length q.head)) small in
    let parts = or-none (nat_lt 16 (length q.atoms)) (nat_lt 8 (length (existential_variables q))) first.0 in
    record {
      variables = All-from_recursion (λ v. v < length m.variables) (body_variables q) numbered.within;
      head_in_body = λ k d within.
          Contains-from_any eqb-true (get_or m.head k d) (body_variables q)
          (not-false _ (fails-each (λ v. not (is_bound q v)) m.head safe k d within));
      some_atom = numbered.some;
      atoms = ltb-false _ _ parts.0;
      existential = ltb-false _ _ parts.1;
      head = ltb-false _ _ first.1;
    }

-- a well-formed query has no fault
pub well-formed-right : (q : Query) (f : QueryFault) → IsWellFormed q → QueryHasFault q f → ⊥
well-formed-right q f w (not_safe {k} h) =
    let found = found-passes (λ v. not (is_bound q v)) q.head k 0 h in
    let bound = list_any-from_Contains nat_eq_equiv (get_or q.head k 0) (body_variables q) (w.head_in_body k 0 found.0) in
    true≢false (sym bound ∙ not-true _ found.1)
well-formed-right q f w (too_large h large) =
    let small : is_too_large q ≡ false = λ i. (le-ltb 16 _ w.atoms i || le-ltb 8 _ w.existential i) || le-ltb 16 _ w.head i in
    true≢false (sym large ∙ small)

QueryHasFault-one : (q : Query) {f f' : QueryFault} → QueryHasFault q f → QueryHasFault q f' → f ≡ f'
QueryHasFault-one q (not_safe {k = k} h) (not_safe {k = k'} h') =
    let same : k ≡ k' = cc in ap (λ n. Unsafe (n + 1)) same
QueryHasFault-one q (not_safe h) (too_large h' large) = absurd (cc)
QueryHasFault-one q (too_large h large) (not_safe h') = absurd (cc)
QueryHasFault-one q (too_large h large) (too_large h' large') = refl

-- such a query is well formed, or has a fault
pub QueryHasFault-some : (m : Met) → IsNumbered m → IsWellFormed (query_of m) ⊎ ((f : QueryFault) × QueryHasFault (query_of m) f)
QueryHasFault-some m numbered = by (position (λ v. not (is_bound (query_of m) v)) m.head) refl (is_too_large (query_of m)) refl
  where
    by : (o : Option ℕ) → position (λ v. not (is_bound (query_of m) v)) m.head ≡ o → (b : Bool) → is_too_large (query_of m) ≡ b
        → IsWellFormed (query_of m) ⊎ ((f : QueryFault) × QueryHasFault (query_of m) f)
    by (Some k) e b f = inr (Unsafe (k + 1), not_safe e)
    by None e true f = inr (TooLarge _ _ _, too_large e f)
    by None e false f = inl (well-formed m numbered e f)

-- ---- texts of the grammar

module _ (bytes : List ℕ) (names : List Text) where
  module _ (m : Met) (text : IsText bytes names m) where
    gives-it : {m m' : Met} → reads m ≡ reads m' → m ≡ m'
    gives-it h = cc

    -- where the names fit, reading gives it
    read : length m.names ≤ max_names → Runs m.names (end_of query_word (nothing_met names) (symbols_of text.tokens)) (reads m)
        → (o : Outcome) → outcome query_word (nothing_met names) text.tokens ≡ o → o ≡ gives m
    read fits (runs_out over is) o e = absurd (omega (arith, over, fits))
    read fits (runs_on f is) o e = by o (subst (λ o. Agrees o (reads m)) e (subst (Agrees (outcome query_word (nothing_met names) text.tokens)) is (outcome-agrees query_word (nothing_met names) text.tokens)))
      where
        by : (o : Outcome) → Agrees o (reads m) → o ≡ gives m
        by (gives m') agrees = ap gives (sym (gives-it agrees))
        by (fails f after) (cause, at, x, y) = absurd (cc)
        by unfinished agrees = absurd (cc)

    pub text-gives : length m.names ≤ max_names → TextHasOutcome bytes names (gives m)
    text-gives fits =
        let start : length names ≤ max_names = omega (arith, fits, query-grows names (symbols_of text.tokens) m text.query) in
        record {
          tokens = text.tokens;
          are = text.are;
          is = read fits (query-runs names (symbols_of text.tokens) m text.query start) (outcome query_word (nothing_met names) text.tokens) refl;
        }

    -- where they don't, it fails for that
    pub text-fails : length names ≤ max_names → max_names < length m.names → (at : ℕ) × (after : List Text) × HasFault bytes names (TooManyNames at) after
    text-fails start over =
        by (query-runs names (symbols_of text.tokens) m text.query start) (outcome query_word (nothing_met names) text.tokens) refl
      where
        last : (o : Outcome) → outcome query_word (nothing_met names) text.tokens ≡ o → Agrees o (stops too_many_names)
            → (at : ℕ) × (after : List Text) × HasFault bytes names (TooManyNames at) after
        last (gives m') e agrees = absurd (cc)
        last unfinished e agrees = absurd (cc)
        last (fails f after) e (cause, at, x, y) =
            let same : too_many_names ≡ cause = cc in
            let fault : f ≡ TooManyNames at = x ∙ ap (λ c. fault_of c at) (sym same) in
            (at, after, at_token (record { tokens = text.tokens; are = text.are; is = e ∙ ap (λ x. fails x after) fault }))

        by : Runs m.names (end_of query_word (nothing_met names) (symbols_of text.tokens)) (reads m)
            → (o : Outcome) → outcome query_word (nothing_met names) text.tokens ≡ o
            → (at : ℕ) × (after : List Text) × HasFault bytes names (TooManyNames at) after
        by (runs_on f is) o e = absurd (omega (arith, over, f))
        by (runs_out f is) o e = last o e (subst (λ o. Agrees o (stops too_many_names)) e (subst (Agrees (outcome query_word (nothing_met names) text.tokens)) is (outcome-agrees query_word (nothing_met names) text.tokens)))

  pub record Texts (m : Met) : Type 0 where
    pub text : IsText bytes names m
    pub fits : length m.names ≤ max_names

  -- what reading gives is of the grammar
  pub gives-text : (m : Met) → length names ≤ max_names → TextHasOutcome bytes names (gives m) → Texts m
  gives-text m start has =
      let agrees : end_of query_word (nothing_met names) (symbols_of has.tokens) ≡ reads m =
      subst (λ o. Agrees o (end_of query_word (nothing_met names) (symbols_of has.tokens))) has.is (outcome-agrees query_word (nothing_met names) has.tokens)
      in
      let query = query-read names m (symbols_of has.tokens) agrees in
      record { text = record { tokens = has.tokens; are = has.are; query = query.query }; fits = query.fits start }

  pub text-numbered : (m : Met) → IsText bytes names m → IsNumbered m
  text-numbered m text = query-numbered names (symbols_of text.tokens) m text.query

  one-met : {m m' : Met} → TextHasOutcome bytes names (gives m) → TextHasOutcome bytes names (gives m') → m ≡ m'
  one-met {m} {m'} h h' = by (HasOutcome-one (length bytes) h h')
    where
      by : gives m ≡ gives m' → m ≡ m'
      by h = cc

  not-failing : {m : Met} {f : QueryFault} {after : List Text} → TextHasOutcome bytes names (gives m) → TextHasOutcome bytes names (fails f after) → ⊥
  not-failing {m} {f} {after} h h' = by (HasOutcome-one (length bytes) h h')
    where
      by : gives m ≡ fails f after → ⊥
      by h = cc

  -- ---- the results

  pub value-one : (q q' : Query) (after after' : List Text) → IsValue bytes names q after → IsValue bytes names q' after' → (q ≡ q') × (after ≡ after')
  value-one q q' after after' v v' =
      let same = one-met (text-gives v.m v.text v.fits) (text-gives v'.m v'.text v'.fits) in
      (v.is ∙ ap query_of same ∙ sym v'.is, v.named ∙ ap (λ m. m.names) same ∙ sym v'.named)

  pub fault-one : (f f' : QueryFault) (after after' : List Text) → HasFault bytes names f after → HasFault bytes names f' after' → (f ≡ f') × (after ≡ after')
  fault-one f f' after after' (at_token h) (at_token h') = by (HasOutcome-one (length bytes) h h')
    where
      by : fails f after ≡ fails f' after' → (f ≡ f') × (after ≡ after')
      by h = (cc, cc)
  fault-one f f' after after' (at_token h) (of_query {m = m} text fits fault) = absurd (not-failing (text-gives m text fits) h)
  fault-one f f' after after' (of_query {m = m} text fits fault) (at_token h) = absurd (not-failing (text-gives m text fits) h)
  fault-one f f' after after' (of_query {m = m} text fits fault) (of_query {m = m'} text' fits' fault') =
      let same = one-met (text-gives m text fits) (text-gives m' text' fits') in
      (QueryHasFault-one (query_of m) fault (subst (λ x. QueryHasFault (query_of x) f') (sym same) fault'), ap (λ x. x.names) same)

  pub not-both : (q : Query) (f : QueryFault) (after after' : List Text) → IsValue bytes names q after → HasFault bytes names f after' → ⊥
  not-both q f after after' v (at_token h) = not-failing (text-gives v.m v.text v.fits) h
  not-both q f after after' v (of_query {m = m} text fits fault) =
      let same = one-met (text-gives v.m v.text v.fits) (text-gives m text fits) in
      well-formed-right q f v.well_formed (subst (λ x. QueryHasFault x f) (ap query_of (sym same) ∙ sym v.is) fault)

  abbrev pub Results : Type 0
  Results = ((q : Query) × (after : List Text) × IsValue bytes names q after) ⊎ ((f : QueryFault) × (after : List Text) × HasFault bytes names f after)

  pub some-result : length names ≤ max_names → Results
  some-result start =
      let ended = HasOutcome-some (length bytes) query_word (nothing_met names) bytes in by ended.o ended.has
    where
      by : (o : Outcome) → TextHasOutcome bytes names o → Results
      by (gives m) has =
          let t = gives-text m start has in last t (QueryHasFault-some m (text-numbered m t.text))
        where
          last : Texts m → IsWellFormed (query_of m) ⊎ ((f : QueryFault) × QueryHasFault (query_of m) f) → Results
          last t (inl w) =
              inl (query_of m, m.names, record { m = m; text = t.text; fits = t.fits; is = refl; named = refl; well_formed = w })
          last t (inr fault) = inr (fault.0, m.names, of_query t.text t.fits fault.1)
      by (fails f after) has = inr (f, after, at_token has)
      by unfinished has = absurd (outcome-finished (length bytes) has.are query_word (nothing_met names) has.is)

  -- a text of the grammar without the faults that may come to it has a value
  pub text-value : (m : Met) → IsText bytes names m → ((at : ℕ) (after : List Text) → HasFault bytes names (TooManyNames at) after → ⊥)
      → ((f : QueryFault) → QueryHasFault (query_of m) f → ⊥) → length names ≤ max_names → IsValue bytes names (query_of m) m.names
  text-value m text room right start = by (nat_lt max_names (length m.names)) refl (QueryHasFault-some m (text-numbered m text))
    where
      by : (b : Bool) → nat_lt max_names (length m.names) ≡ b → IsWellFormed (query_of m) ⊎ ((f : QueryFault) × QueryHasFault (query_of m) f)
          → IsValue bytes names (query_of m) m.names
      by true e r = let fault = text-fails m text start (ltb-true _ _ e) in absurd (room fault.0 fault.1 fault.2)
      by false e (inr fault) = absurd (right fault.0 fault.1)
      by false e (inl w) = record { m = m; text = text; fits = ltb-false _ _ e; is = refl; named = refl; well_formed = w }
