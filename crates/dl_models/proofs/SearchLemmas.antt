-- Tests of membership, and a search below a bound for a number that passes a test.
use Rattle.std.proofs.Common.{◌≡◌, ℕ, zero, suc, ◌<◌, ◌≤◌, ◌⊎◌, ◌≢◌, ◌↔◌, Bool, true, false, cond, ◌&&◌, ◌||◌, List, [], ◌∷◌, nat_eq, refl, sym, ap, ap₂, subst, ◌∙◌, ⊎_elim, inl, inr, true≢false, arith, eqb-true, eq-eqb}
use Rattle.std.specs.List.{Contains, list_any}
use Rattle.dl_terms.proofs.MemberLemmas.{Contains-first, Contains-later, Contains-cons, Contains-nil, both_true}

pub or_true : (s t : Bool) → (s || t) ≡ true → (s ≡ true) ⊎ (t ≡ true)
or_true true t e = inl refl
or_true false t e = inr e

pub or_left : (s t : Bool) → s ≡ true → (s || t) ≡ true
or_left true t e = refl
or_left false t e = absurd (true≢false (sym e))

pub or_right : (s t : Bool) → t ≡ true → (s || t) ≡ true
or_right true t e = refl
or_right false t e = e

pub and_true : (s t : Bool) → s ≡ true → t ≡ true → (s && t) ≡ true
and_true s t e f = ap₂ (λ x y. x && y) e f

-- a test of equality that is right, tried on each item, tells what is a member
module _ {A : Type 0} (eq : A → A → Bool) (right : (x y : A) → (eq x y ≡ true) ↔ (x ≡ y)) where
  pub any-member : (xs : List A) (y : A) → list_any (λ x. eq x y) xs ≡ true → Contains xs y
  any-member [] y e = absurd (true≢false (sym e))
  any-member (x ∷ xs) y e =
      ⊎_elim (λ (here : eq x y ≡ true). subst (Contains (x ∷ xs)) ((right x y).0 here) (Contains-first x xs))
      (λ (later : list_any (λ x. eq x y) xs ≡ true). Contains-later x y xs (any-member xs y later)) (or_true (eq x y) (list_any (λ x. eq x y) xs) e)

  pub member-any : (xs : List A) (y : A) → Contains xs y → list_any (λ x. eq x y) xs ≡ true
  member-any [] y c = absurd (Contains-nil y c)
  member-any (x ∷ xs) y c =
      ⊎_elim (λ (here : x ≡ y). or_left (eq x y) (list_any (λ x. eq x y) xs) ((right x y).1 here))
      (λ (later : Contains xs y). or_right (eq x y) (list_any (λ x. eq x y) xs) (member-any xs y later)) (Contains-cons x y xs c)

  pub member-exact : (xs : List A) (y : A) → (list_any (λ x. eq x y) xs ≡ true) ↔ Contains xs y
  member-exact xs y = (any-member xs y, member-any xs y)

-- pairs and triples of numbers
abbrev pub pair_eq : ℕ × ℕ → ℕ × ℕ → Bool
pair_eq p q = nat_eq p.0 q.0 && nat_eq p.1 q.1

abbrev pub triple_eq : ℕ × ℕ × ℕ → ℕ × ℕ × ℕ → Bool
triple_eq p q = nat_eq p.0 q.0 && nat_eq p.1 q.1 && nat_eq p.2 q.2

pub pair_right : (p q : ℕ × ℕ) → (pair_eq p q ≡ true) ↔ (p ≡ q)
pair_right p q = (
  λ e. let h = both_true (nat_eq p.0 q.0) (nat_eq p.1 q.1) e in ap₂ (λ x y. (x, y)) (eqb-true p.0 q.0 h.0) (eqb-true p.1 q.1 h.1),
  λ e. and_true (nat_eq p.0 q.0) (nat_eq p.1 q.1) (eq-eqb p.0 q.0 (ap (λ z. z.0) e)) (eq-eqb p.1 q.1 (ap (λ z. z.1) e)),
)

pub triple_right : (p q : ℕ × ℕ × ℕ) → (triple_eq p q ≡ true) ↔ (p ≡ q)
triple_right p q = (
  λ e.
      let h = both_true (nat_eq p.0 q.0 && nat_eq p.1 q.1) (nat_eq p.2 q.2) e in
      let k = both_true (nat_eq p.0 q.0) (nat_eq p.1 q.1) h.0 in
      (λ j. (eqb-true p.0 q.0 k.0 j, eqb-true p.1 q.1 k.1 j, eqb-true p.2 q.2 h.1 j)),
  λ e.
      and_true (nat_eq p.0 q.0 && nat_eq p.1 q.1) (nat_eq p.2 q.2)
      (and_true (nat_eq p.0 q.0) (nat_eq p.1 q.1) (eq-eqb p.0 q.0 (ap (λ z. z.0) e)) (eq-eqb p.1 q.1 (ap (λ z. z.1) e)))
      (eq-eqb p.2 q.2 (ap (λ z. z.2) e)),
)

-- ---- a search

abbrev pub found : (ℕ → Bool) → ℕ → ℕ
found test zero = zero
found test (suc n) = cond (test n) n (found test n)

found-le : (test : ℕ → Bool) (n : ℕ) → found test n ≤ n
found-le test zero = omega arith
found-le test (suc n) = by (test n) (found-le test n)
  where
    by : (b : Bool) → found test n ≤ n → cond b n (found test n) ≤ suc n
    by true h = omega arith
    by false h = omega (arith, h)

pub found-below : (test : ℕ → Bool) (n : ℕ) → 0 < n → found test n < n
found-below test zero h = absurd (omega (arith, h))
found-below test (suc n) h = by (test n)
  where
    by : (b : Bool) → cond b n (found test n) < suc n
    by true = omega arith
    by false = let h = found-le test n in omega (arith, h)

-- where a number below the bound passes, what is found passes
pub found-passes : (test : ℕ → Bool) (n y : ℕ) → y < n → test y ≡ true → test (found test n) ≡ true
found-passes test zero y lt e = absurd (omega (arith, lt))
found-passes test (suc n) y lt e = by (test n) refl (found-passes test n y)
  where
    by : (b : Bool) → test n ≡ b → (y < n → test y ≡ true → test (found test n) ≡ true) → test (cond b n (found test n)) ≡ true
    by true is rest = is
    by false is rest =
        let other : y ≢ n = λ same. true≢false (sym e ∙ ap test same ∙ is) in
        rest (omega (arith, lt, other)) e
