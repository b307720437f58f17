-- Probes as needs: runs of a name, and the need of a probe of each form.
use Rattle.std.proofs.Common.{◌≡◌, ◌≢◌, ℕ, ◌+◌, ◌<◌, ◌≤◌, ◌⊎◌, ◌↔◌, inl, inr, Bool, true, false, cond, not, ◌==◌, filter, List, [], ◌∷◌, Option, Some, None, length, take, drop, get_or, refl, sym, ap, ap₂, subst, ◌∙◌, arith, true≢false}
use Rattle.std.specs.Prelude.{IfNone}
use Rattle.std.specs.List.{AllPairs, AllWithin, Contains}
use Rattle.std.proofs.lemmas.Bool.{cases_lt, cases_eq}
use Rattle.std.proofs.lemmas.Bool.Decides.{nat_tests}
use Rattle.std.proofs.lemmas.List.{get_or_default}
use Rattle.std.proofs.lemmas.List.Elements.{Contains-get_or, Contains-append_left, Contains-append_right, Contains-push}
use Rattle.std.proofs.lemmas.List.Kept.{IsNonDecreasingBy-filter, AllPairs-filter}
use Rattle.dl_terms.proofs.MemberLemmas.{Contains-cons}
use Rattle.dl_terms.specs.declared.role.Basic.{Basic}
use Rattle.dl_terms.specs.declared.query.Term.TheVariants.{Var, Name}
use Rattle.dl_terms.specs.declared.query.Probe.TheVariants.{AnyOf, Joined}
use Rattle.dl_join.specs.declared.need.Need.{Need}
use Rattle.dl_join.specs.declared.need.Column.{Column}
use Rattle.dl_join.specs.declared.need.Column.TheVariants.{First, Second}
use Rattle.dl_join.specs.Needs.{in_column, AreAscending, NeedHolds}
use Rattle.dl_join.specs.Probing.{kept_pairs, IsNeedOf}
use Rattle.dl_join.proofs.PairLemmas.{in_drop, in_take, kept_drop, kept_take, floor_drop, ceiling_take, ascending_drop, ascending_run}

-- ---- members of filtered lists

pub Contains-filter : {A : Type 0} (p : A → Bool) (xs : List A) (x : A) → Contains (filter p xs) x → Contains xs x × (p x ≡ true)
Contains-filter p [] x h = absurd (omega (arith, h.1))
Contains-filter {A} p (y ∷ ys) x h = by (Contains-filter p ys x) (p y) refl h
  where
    by : (Contains (filter p ys) x → Contains ys x × (p x ≡ true)) → (b : Bool) → p y ≡ b
        → Contains (cond b (y ∷ filter p ys) (filter p ys)) x → Contains (y ∷ ys) x × (p x ≡ true)
    by rec true e g = elim (Contains-cons y x (filter p ys) g) [
      | inl same ↦ (Contains-append_left (y ∷ []) ys x (subst (Contains (y ∷ [])) same (Contains-push [] y)), subst (λ z. p z ≡ true) same e)
      | inr rest ↦ let r = rec rest in (Contains-append_right (y ∷ []) ys x r.0, r.1)
    ]
    by rec false e g = let r = rec g in (Contains-append_right (y ∷ []) ys x r.0, r.1)

pub Contains-filter_of : {A : Type 0} (p : A → Bool) (xs : List A) (x : A) → Contains xs x → p x ≡ true → Contains (filter p xs) x
Contains-filter_of p [] x h is = absurd (omega (arith, h.1))
Contains-filter_of {A} p (y ∷ ys) x h is = by (λ k. Contains-filter_of p ys x k is) (p y) refl (Contains-cons y x ys h)
  where
    by : (Contains ys x → Contains (filter p ys) x) → (b : Bool) → p y ≡ b → (y ≡ x) ⊎ Contains ys x → Contains (cond b (y ∷ filter p ys) (filter p ys)) x
    by rec true e (inl same) = Contains-append_left (y ∷ []) (filter p ys) x (subst (Contains (y ∷ [])) same (Contains-push [] y))
    by rec true e (inr rest) = Contains-append_right (y ∷ []) (filter p ys) x (rec rest)
    by rec false e (inl same) = absurd (true≢false (sym is ∙ ap p (sym same) ∙ e))
    by rec false e (inr rest) = rec rest

-- ---- pairs in order

pub ascending_filter : (p : ℕ × ℕ → Bool) (pairs : List (ℕ × ℕ)) → AreAscending First pairs → AreAscending First (filter p pairs)
ascending_filter p pairs up =
    let rise : AllPairs (λ (x : ℕ × ℕ) (y : ℕ × ℕ). x.0 ≡ y.0 → x.1 ≤ y.1) pairs = λ i j d lt h e. up.seconds i j d (omega arith) h e in
    let kept = AllPairs-filter (λ (x : ℕ × ℕ) (y : ℕ × ℕ). x.0 ≡ y.0 → x.1 ≤ y.1) p pairs rise in
    record {
      names = IsNonDecreasingBy-filter (in_column First) p pairs up.names;
      seconds = λ i j d le h e. elim (cases_eq i j) [
        | inl same ↦ rw same (omega arith)
        | inr differs ↦ kept i j d (omega arith) h e
      ];
    }

-- ---- the run of a first name

pub run_members : (pairs : List (ℕ × ℕ)) (l h name : ℕ) → AllWithin (λ p. p.0 < name) pairs 0 l → AllWithin (λ p. name ≤ p.0) pairs l (length pairs)
    → AllWithin (λ p. p.0 < name + 1) (drop l pairs) 0 h → AllWithin (λ p. name + 1 ≤ p.0) (drop l pairs) h (length (drop l pairs))
    → (p : ℕ × ℕ) → Contains (take h (drop l pairs)) p ↔ (Contains pairs p × (p.0 ≡ name))
run_members pairs l h name below others below' others' p = (
  λ w.
      let rest = in_take (in_column First) (drop l pairs) h p w in
      let low = floor_drop (in_column First) pairs l name p others rest in
      let high = ceiling_take (in_column First) (drop l pairs) h (name + 1) p below' w in
      (in_drop (in_column First) pairs l p rest, omega arith),
  λ w.
      let is = w.1 in
      kept_take (in_column First) (drop l pairs) h (name + 1) p others' (omega arith) (kept_drop (in_column First) pairs l name p below (omega arith) w.0),
)

pub run_ascends : (pairs : List (ℕ × ℕ)) (l h name : ℕ) → AreAscending First pairs → AllWithin (λ p. name ≤ p.0) pairs l (length pairs)
    → AllWithin (λ p. p.0 < name + 1) (drop l pairs) 0 h → AreAscending Second (take h (drop l pairs))
run_ascends pairs l h name up others below =
    ascending_run First (drop l pairs) h name (ascending_drop First pairs l up) (λ p w. floor_drop (in_column First) pairs l name p others w) below

-- no pair has the name where the first one that is not below it is above it
pub second_missed : (run : List (ℕ × ℕ)) (low name : ℕ) (pair : ℕ × ℕ) → AreAscending Second run → AllWithin (λ p. p.1 < name) run 0 low
    → AllWithin (λ p. name ≤ p.1) run low (length run) → low < length run → pair ≡ get_or run low pair → (pair.1 == name) ≡ false
    → (first : ℕ) → Contains run (first, name) → ⊥
second_missed run low name pair up below others inside read differs first w = elim (cases_lt w.0 low) [
  | inl before ↦ (let lt = below w.0 (first, name) (omega arith) before in let is = ap (λ (p : ℕ × ℕ). p.1) w.2 in omega arith)
  | inr past ↦
      (let rise = up.names low w.0 pair past w.1 in
      let le = others low pair (omega arith) inside in
      let is = ap (λ (p : ℕ × ℕ). p.1) w.2 in
      let here = ap (λ (p : ℕ × ℕ). p.1) read in
      let there = ap (λ (p : ℕ × ℕ). p.1) (get_or_default run w.0 pair (first, name) w.1) in
      let same : pair.1 ≡ name = omega arith in
      let b : (pair.1 == name) ≡ true = grind (arith, nat_tests) in
      absurd (true≢false (sym b ∙ differs)))
]

-- ---- the need of a probe

-- a pair from its two names
pair_of : (p : ℕ × ℕ) (a b : ℕ) → p.0 ≡ a → p.1 ≡ b → p ≡ (a, b)
pair_of p a b e f = ap₂ (λ x y. (x, y)) e f

module _ (v : ℕ) (need : Need) (at : need.at ≡ v) (column : need.column ≡ First) where
  first_name : (names : ℕ → ℕ) (h : NeedHolds names need) → h.pair.0 ≡ names v
  first_name names h = ap (λ (c : Column). in_column c h.pair) (sym column) ∙ (h.here ∙ ap names at)

  first_here : (names : ℕ → ℕ) (p : ℕ × ℕ) → p.0 ≡ names v → in_column need.column p ≡ names need.at
  first_here names p e = ap (λ (c : Column). in_column c p) column ∙ (e ∙ ap names (sym at))

  pub any_of_need : (basics : List Basic) (pairs : List (ℕ × ℕ)) → need.other ≡ None → need.pairs.now ≡ pairs → AreAscending First pairs
      → IsNeedOf (AnyOf basics (Var v)) pairs need
  any_of_need basics pairs none are up = record {
    to = λ names h. (h.pair.1, subst (Contains pairs) (pair_of h.pair (names v) h.pair.1 (first_name names h) refl) (subst (λ xs. Contains xs h.pair) are h.among));
    from = λ names w. record {
      pair = (names v, w.0);
      among = rw are w.1;
      here = first_here names (names v, w.0) refl;
      there = λ u some. cc (none, some);
    };
    ascending = rw (column, are) up;
    apart = λ w some. cc (none, some);
    column = λ w some. cc (none, some);
    variables = λ u e. inl (at ∙ cc e);
  }

  pub with_name_need : (role b : ℕ) (pairs : List (ℕ × ℕ)) → need.other ≡ None → need.pairs.now ≡ kept_pairs pairs (Joined role (Var v) (Name b)) → AreAscending First pairs
      → IsNeedOf (Joined role (Var v) (Name b)) pairs need
  with_name_need role b pairs none are up = record {
    to = λ names h.
        let kept = Contains-filter (λ (p : ℕ × ℕ). p.1 == b) pairs h.pair (subst (λ xs. Contains xs h.pair) are h.among) in
        let test = kept.1 in
        let second : h.pair.1 ≡ b = grind (arith, nat_tests) in
        subst (Contains pairs) (pair_of h.pair (names v) b (first_name names h) second) kept.0;
    from = λ names w.
        let test : (b == b) ≡ true = grind (arith, nat_tests) in
        record {
          pair = (names v, b);
          among = rw are (Contains-filter_of (λ (p : ℕ × ℕ). p.1 == b) pairs (names v, b) w test);
          here = first_here names (names v, b) refl;
          there = λ u some. cc (none, some);
        };
    ascending = rw (column, are) (ascending_filter (λ (p : ℕ × ℕ). p.1 == b) pairs up);
    apart = λ w some. cc (none, some);
    column = λ w some. cc (none, some);
    variables = λ u e. elim e [ inl same ↦ inl (at ∙ cc same) | inr other ↦ absurd (cc other) ];
  }

  pub twice_need : (role w : ℕ) (pairs : List (ℕ × ℕ)) → v ≡ w → need.other ≡ None → need.pairs.now ≡ kept_pairs pairs (Joined role (Var v) (Var w))
      → AreAscending First pairs → IsNeedOf (Joined role (Var v) (Var w)) pairs need
  twice_need role w pairs same none kept up =
      let b : (v == w) ≡ true = grind (arith, nat_tests) in
      let are : need.pairs.now ≡ filter (λ (p : ℕ × ℕ). p.0 == p.1) pairs = rw b at kept in
      record {
        to = λ names h.
            let kept = Contains-filter (λ (p : ℕ × ℕ). p.0 == p.1) pairs h.pair (subst (λ xs. Contains xs h.pair) are h.among) in
            let test = kept.1 in
            let equal : h.pair.0 ≡ h.pair.1 = grind (arith, nat_tests) in
            let first = first_name names h in
            subst (Contains pairs) (pair_of h.pair (names v) (names w) first (sym equal ∙ (first ∙ ap names same))) kept.0;
        from = λ names c.
            let equal = ap names same in
            let test : (names v == names w) ≡ true = grind (arith, nat_tests) in
            record {
              pair = (names v, names w);
              among = rw are (Contains-filter_of (λ (p : ℕ × ℕ). p.0 == p.1) pairs (names v, names w) c test);
              here = first_here names (names v, names w) refl;
              there = λ u some. cc (none, some);
            };
        ascending = rw (column, are) (ascending_filter (λ (p : ℕ × ℕ). p.0 == p.1) pairs up);
        apart = λ u some. cc (none, some);
        column = λ u some. cc (none, some);
        variables = λ u e. elim e [ inl is ↦ inl (at ∙ cc is) | inr is ↦ inl (at ∙ (same ∙ cc is)) ];
      }

  pub two_need : (role w : ℕ) (pairs : List (ℕ × ℕ)) → v ≢ w → need.other ≡ Some w → need.pairs.now ≡ pairs → AreAscending First pairs
      → IsNeedOf (Joined role (Var v) (Var w)) pairs need
  two_need role w pairs differs other are up = record {
    to = λ names h.
        subst (Contains pairs) (pair_of h.pair (names v) (names w) (first_name names h) (h.there w other)) (subst (λ xs. Contains xs h.pair) are h.among);
    from = λ names c. record {
      pair = (names v, names w);
      among = rw are c;
      here = first_here names (names v, names w) refl;
      there = λ u some. let same : w ≡ u = cc (other, some) in ap names same;
    };
    ascending = rw (column, are) up;
    apart = λ u some same. (let e : w ≡ u = cc (other, some) in differs (sym at ∙ (sym same ∙ sym e)));
    column = λ u some. column;
    variables = λ u e. elim e [ inl is ↦ inl (at ∙ cc is) | inr is ↦ inr (other ∙ cc is) ];
  }

pub run_need : (role a w : ℕ) (pairs run : List (ℕ × ℕ)) (need : Need) → need.at ≡ w → need.other ≡ None → need.column ≡ Second → need.pairs.now ≡ run
    → ((p : ℕ × ℕ) → Contains run p ↔ (Contains pairs p × (p.0 ≡ a))) → AreAscending Second run → IsNeedOf (Joined role (Name a) (Var w)) pairs need
run_need role a w pairs run need at none column are members up = record {
  to = λ names h.
      let both = (members h.pair).0 (subst (λ xs. Contains xs h.pair) are h.among) in
      let second = ap (λ (c : Column). in_column c h.pair) (sym column) ∙ (h.here ∙ ap names at) in
      subst (Contains pairs) (pair_of h.pair a (names w) both.1 second) both.0;
  from = λ names c. record {
    pair = (a, names w);
    among = rw are ((members (a, names w)).1 (c, refl));
    here = ap (λ (k : Column). in_column k (a, names w)) column ∙ ap names (sym at);
    there = λ u some. cc (none, some);
  };
  ascending = rw (column, are) up;
  apart = λ u some. cc (none, some);
  column = λ u some. cc (none, some);
  variables = λ u e. elim e [ inl is ↦ absurd (cc is) | inr is ↦ inl (at ∙ cc is) ];
}

-- ---- probes without variables

module _ (pairs run : List (ℕ × ℕ)) (a : ℕ) (members : (p : ℕ × ℕ) → Contains run p ↔ (Contains pairs p × (p.0 ≡ a))) where
  pub any_fails : length run ≡ 0 → (second : ℕ) × Contains pairs (a, second) → ⊥
  any_fails none w = let inside = ((members (a, w.0)).1 (w.1, refl)).1 in omega arith

  pub any_holds : 0 < length run → (second : ℕ) × Contains pairs (a, second)
  any_holds some =
      let p : ℕ × ℕ = get_or run 0 (0, 0) in
      let both = (members p).0 (Contains-get_or run 0 (0, 0) some) in
      (p.1, subst (Contains pairs) (pair_of p a p.1 both.1 refl) both.0)

  pub joined_fails : (b : ℕ) → ((first : ℕ) → Contains run (first, b) → ⊥) → Contains pairs (a, b) → ⊥
  joined_fails b missed c = missed a ((members (a, b)).1 (c, refl))

  pub joined_holds : (b : ℕ) → (first : ℕ) × Contains run (first, b) → Contains pairs (a, b)
  joined_holds b w =
      let both = (members (w.0, b)).0 w.1 in
      subst (λ x. Contains pairs (x, b)) both.1 both.0

pub not_true : (b : Bool) → not b ≡ true → b ≡ false
not_true true e = sym e
not_true false e = refl

pub not_false : (b : Bool) → not b ≡ false → b ≡ true
not_false true e = refl
not_false false e = sym e

pub none_then : {X : Type 0} (r : Option X) {P Q : Type 0} → IfNone r P → (P → Q) → IfNone r Q
none_then None p f = f p
none_then (Some x) p f = tt
