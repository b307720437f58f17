-- The query that is kept, and its fault.
use Rattle.std.proofs.Common.{◌≡◌, ℕ, ◌+◌, ◌-◌, ◌<◌, ◌≤◌, Bool, true, false, cond, not, ◌||◌, nat_lt, List, [], ◌∷◌, length, get_or, Some, None, position, refl, sym, ap, subst, ◌∙◌, arith}
use Rattle.std.specs.List.{position_or_len, AllByRecursion}
use Rattle.std.proofs.lemmas.Bool.{lt-ltb, le-ltb}
use Rattle.dl_terms.specs.declared.query.Query.{Query}
use Rattle.dl_terms.specs.Queries.{existential_variables, IsWellFormed}
use Rattle.dl_query.specs.declared.fault.QueryFault.TheVariants.{Unsafe, TooLarge}
use Rattle.dl_query.specs.declared.body.Body.{Body}
use Rattle.dl_query.specs.Grammar.{Met, query_of}
use Rattle.dl_query.specs.Queries.{is_bound, is_too_large, QueryHasFault, not_safe, too_large}
use Rattle.dl_query.specs.Parts.{AreNumbers, Judges}
use Rattle.dl_query.proofs.NumberLemmas.{existential-count}
use Rattle.dl_query.proofs.ResultLemmas.{well-formed}

-- tests that agree on the elements agree on the first one
module _ (p q : ℕ → Bool) (count : ℕ) (same : (v : ℕ) → v < count → p v ≡ q v) where
  position_or_len-same : (xs : List ℕ) → AllByRecursion (λ v. v < count) xs → position_or_len p xs ≡ position_or_len q xs
  position_or_len-same [] h = refl
  position_or_len-same (x ∷ xs) h = λ i. cond (not (same x h.0 i)) (1 + position_or_len-same xs h.1 i) 0

  position-same : (xs : List ℕ) → AllByRecursion (λ v. v < count) xs → position p xs ≡ position q xs
  position-same xs h = ap (λ n. cond (nat_lt n (length xs)) (Some n) None) (position_or_len-same xs h)

module _ (m : Met) (head : List ℕ) (body : Body) (heads variables : ℕ) (numbers : AreNumbers head heads) (fits : heads ≤ variables)
    (j : Judges m head body heads variables) where
  -- the marks tell which variables are bound
  pub unbound-same : position (λ v. not (get_or body.bound.items v false)) head ≡ position (λ v. not (is_bound (query_of m) v)) m.head
  unbound-same =
      position-same (λ v. not (get_or body.bound.items v false)) (λ v. not (is_bound (query_of m) v)) heads (λ v h. ap not (j.keeps.marked v h)) head numbers.below
      ∙ ap (position (λ v. not (is_bound (query_of m) v))) j.in_head

  pub existential-is : length (existential_variables (query_of m)) ≡ variables - heads
  existential-is =
      let all = existential-count m heads j.numbered (subst (λ l. AreNumbers l heads) j.in_head numbers) (omega (arith, fits, j.in_all)) in
      omega (arith, all, j.in_all, fits)

  -- the first place that isn't bound
  pub unsafe-fault : (k : ℕ) → position (λ v. not (get_or body.bound.items v false)) head ≡ Some k → QueryHasFault (query_of m) (Unsafe (k + 1))
  unsafe-fault k h = not_safe (sym unbound-same ∙ h)

  safe : position (λ v. not (get_or body.bound.items v false)) head ≡ None → position (λ v. not (is_bound (query_of m) v)) m.head ≡ None
  safe h = sym unbound-same ∙ h

  large-is : is_too_large (query_of m) ≡ (nat_lt 16 body.count || nat_lt 8 (variables - heads) || nat_lt 16 (length head))
  large-is = λ i. nat_lt 16 (sym j.keeps.counted i) || nat_lt 8 (existential-is i) || nat_lt 16 (length (sym j.in_head i))

  pub large-fault : position (λ v. not (get_or body.bound.items v false)) head ≡ None
      → (nat_lt 16 body.count || nat_lt 8 (variables - heads) || nat_lt 16 (length head)) ≡ true
      → QueryHasFault (query_of m) (TooLarge body.count (variables - heads) (length head))
  large-fault h large =
      subst (QueryHasFault (query_of m)) (λ i. TooLarge (sym j.keeps.counted i) (existential-is i) (length (sym j.in_head i)))
      (too_large (safe h) (large-is ∙ large))

  pub small-well-formed : position (λ v. not (get_or body.bound.items v false)) head ≡ None
      → (nat_lt 16 body.count || nat_lt 8 (variables - heads) || nat_lt 16 (length head)) ≡ false → IsWellFormed (query_of m)
  small-well-formed h small = well-formed m j.numbered (safe h) (large-is ∙ small)

  -- few enough to be kept
  pub kept-all : body.count ≤ 16 → variables - heads ≤ 8 → length head ≤ 16 → body.kept ≡ m.atoms
  kept-all few existential short =
      j.keeps.kept (omega (arith, existential, short, numbers.fits)) (omega (arith, few, j.keeps.counted))

  -- so it is the query, and well formed
  pub kept-query : (list : List ℕ) → list ≡ head → position (λ v. not (get_or body.bound.items v false)) head ≡ None
      → body.count ≤ 16 → variables - heads ≤ 8 → length head ≤ 16 → (q : Query) → q ≡ record { head = list; atoms = body.kept; vars = variables }
      → (q ≡ query_of m) × IsWellFormed q
  kept-query list list_is unbound few existential short q is =
      let same : q ≡ query_of m =
      is ∙ (λ i. record { head = (list_is ∙ j.in_head) i; atoms = kept-all few existential short i; vars = j.in_all i })
      in
      let small : (nat_lt 16 body.count || nat_lt 8 (variables - heads) || nat_lt 16 (length head)) ≡ false =
      (λ i. le-ltb 16 _ few i || le-ltb 8 _ existential i || le-ltb 16 _ short i)
      in
      (same, subst IsWellFormed (sym same) (small-well-formed unbound small))

-- one of three numbers is over its limit
module _ (a b c : ℕ) where
  pub over-first : 16 < a → (nat_lt 16 a || nat_lt 8 b || nat_lt 16 c) ≡ true
  over-first h = ap (λ x. x || nat_lt 8 b || nat_lt 16 c) (lt-ltb 16 a h)

  pub over-second : 8 < b → (nat_lt 16 a || nat_lt 8 b || nat_lt 16 c) ≡ true
  over-second h = ap (λ x. nat_lt 16 a || x || nat_lt 16 c) (lt-ltb 8 b h) ∙ ap (λ x. x || nat_lt 16 c) (or-true (nat_lt 16 a))
    where
      or-true : (x : Bool) → (x || true) ≡ true
      or-true true = refl
      or-true false = refl

  pub over-third : 16 < c → (nat_lt 16 a || nat_lt 8 b || nat_lt 16 c) ≡ true
  over-third h = ap (λ x. nat_lt 16 a || nat_lt 8 b || x) (lt-ltb 16 c h) ∙ or-true (nat_lt 16 a || nat_lt 8 b)
    where
      or-true : (x : Bool) → (x || true) ≡ true
      or-true true = refl
      or-true false = refl
