-- What is in a list: of lists written out, of tests of each item, and of lists that ascend strictly, which their members determine.
use Rattle.std.proofs.Common.{◌≡◌, ℕ, zero, suc, ◌<◌, ◌⊎◌, Bool, true, false, ◌&&◌, List, [], ◌∷◌, ◌++◌, length, slice_index_or, refl, sym, ap, ap₂, subst, ◌∙◌, inl, inr, true≢false, arith, zero-lt-suc}
use Rattle.std.specs.declared.cmp.Ordering.{Ordering}
use Rattle.std.specs.declared.cmp.Ordering.TheVariants.{Less, Equal, Greater}
use Rattle.std.specs.Ordering.{ordering_reverse, is_lt}
use Rattle.std.specs.Cmp.{tied_itself}
use Rattle.std.specs.List.{All, Contains, list_all}
use Rattle.std.specs.List.Sorted.{IsStrictlySortedBy}
use Rattle.std.proofs.lemmas.List.Elements.{All-from_recursion}
use Rattle.dl_terms.proofs.OrderLemmas.{IsLinear}

pub Contains-first : {A : Type 0} (x : A) (xs : List A) → Contains (x ∷ xs) x
Contains-first x xs = (0, zero-lt-suc (length xs), refl)

pub Contains-later : {A : Type 0} (x y : A) (xs : List A) → Contains xs y → Contains (x ∷ xs) y
Contains-later x y xs c = (suc c.0, omega (arith, c.1), c.2)

pub Contains-nil : {A : Type 0} (y : A) → Contains [] y → ⊥
Contains-nil y c = omega (arith, c.1)

-- a member of a list is its first item or a later one
pub Contains-cons : {A : Type 0} (x y : A) (xs : List A) → Contains (x ∷ xs) y → (x ≡ y) ⊎ Contains xs y
Contains-cons {A} x y xs c = by c.0 c.1 c.2
  where
    by : (k : ℕ) → k < length (x ∷ xs) → slice_index_or (x ∷ xs) k y ≡ y → (x ≡ y) ⊎ Contains xs y
    by zero h e = inl e
    by (suc k) h e = inr (k, omega (arith, h), e)

-- of a list of one item, or two, written out
pub Contains-one : {A : Type 0} (x y : A) → Contains (x ∷ []) y → x ≡ y
Contains-one {A} x y c = by (Contains-cons x y [] c)
  where
    by : (x ≡ y) ⊎ Contains [] y → x ≡ y
    by (inl e) = e
    by (inr none) = absurd (Contains-nil y none)

pub Contains-two : {A : Type 0} (x z y : A) → Contains (x ∷ z ∷ []) y → (x ≡ y) ⊎ (z ≡ y)
Contains-two {A} x z y c = by (Contains-cons x y (z ∷ []) c)
  where
    by : (x ≡ y) ⊎ Contains (z ∷ []) y → (x ≡ y) ⊎ (z ≡ y)
    by (inl e) = inl e
    by (inr later) = inr (Contains-one z y later)

pub Contains-middle : {A : Type 0} (xs ys : List A) (y : A) → Contains (xs ++ y ∷ ys) y
Contains-middle [] ys y = Contains-first y ys
Contains-middle (x ∷ xs) ys y = Contains-later x y (xs ++ y ∷ ys) (Contains-middle xs ys y)

-- what holds of each holds of a member
pub All-Contains : {A : Type 0} (P : A → Type 0) (xs : List A) (y : A) → All P xs → Contains xs y → P y
All-Contains P xs y all c = subst P c.2 (all c.0 y c.1)

pub both_true : (s t : Bool) → (s && t) ≡ true → (s ≡ true) × (t ≡ true)
both_true true t e = (refl, e)
both_true false t e = absurd (true≢false (sym e))

pub list_all-Contains : {A : Type 0} (test : A → Bool) (xs : List A) (y : A) → list_all test xs ≡ true → Contains xs y → test y ≡ true
list_all-Contains test [] y all c = absurd (Contains-nil y c)
list_all-Contains {A} test (x ∷ xs) y all c = by (Contains-cons x y xs c) (list_all-Contains test xs y (both_true (test x) (list_all test xs) all).1)
  where
    by : (x ≡ y) ⊎ Contains xs y → (Contains xs y → test y ≡ true) → test y ≡ true
    by (inl e) later = ap test (sym e) ∙ (both_true (test x) (list_all test xs) all).0
    by (inr there) later = later there

-- ---- lists that ascend strictly

module _ {A : Type 0} {R : A → A → Ordering} (l : IsLinear R) where
  below_later : (x : A) (xs : List A) (y : A) → IsStrictlySortedBy R (x ∷ xs) → Contains xs y → R x y ≡ Less
  unfolding IsStrictlySortedBy
  below_later x xs y up c = All-Contains (λ z. R x z ≡ Less) xs y (All-from_recursion (λ z. R x z ≡ Less) xs up.0) c

  sorted_rest : (x : A) (xs : List A) → IsStrictlySortedBy R (x ∷ xs) → IsStrictlySortedBy R xs
  unfolding IsStrictlySortedBy
  sorted_rest x xs up = up.1

  not_below_itself : (x : A) → R x x ≡ Less → ⊥
  not_below_itself x e = true≢false (ap is_lt (sym e ∙ tied_itself l.total x))

  not_both_below : (x y : A) → R x y ≡ Less → R y x ≡ Less → ⊥
  not_both_below x y e f = true≢false (ap is_lt (sym e ∙ l.total.antisymm x y ∙ ap ordering_reverse f))

  -- no member is before the first
  no_earlier : (x y : A) (ys : List A) → IsStrictlySortedBy R (y ∷ ys) → Contains (y ∷ ys) x → R x y ≡ Less → ⊥
  no_earlier x y ys up c e = by (Contains-cons y x ys c)
    where
      by : (y ≡ x) ⊎ Contains ys x → ⊥
      by (inl same) = not_below_itself x (subst (λ z. R x z ≡ Less) same e)
      by (inr later) = not_both_below x y e (below_later y ys x up later)

  -- a later member of one of two lists that begin alike is a later one of the other
  later_too : (x y : A) (xs ys : List A) → IsStrictlySortedBy R (x ∷ xs) → ((z : A) → Contains (x ∷ xs) z → Contains (y ∷ ys) z) → x ≡ y
      → (z : A) → Contains xs z → Contains ys z
  later_too x y xs ys up within same z c = by (Contains-cons y z ys (within z (Contains-later x z xs c)))
    where
      by : (y ≡ z) ⊎ Contains ys z → Contains ys z
      by (inl here) = absurd (not_below_itself x (subst (λ w. R x w ≡ Less) (sym (same ∙ here)) (below_later x xs z up c)))
      by (inr there) = there

  -- two lists that ascend strictly and have the same members are the same list
  pub sorted_unique : (xs ys : List A) → IsStrictlySortedBy R xs → IsStrictlySortedBy R ys → ((z : A) → Contains xs z → Contains ys z)
      → ((z : A) → Contains ys z → Contains xs z) → xs ≡ ys
  sorted_unique [] [] up up' to back = refl
  sorted_unique [] (y ∷ ys) up up' to back = absurd (Contains-nil y (back y (Contains-first y ys)))
  sorted_unique (x ∷ xs) [] up up' to back = absurd (Contains-nil x (to x (Contains-first x xs)))
  sorted_unique (x ∷ xs) (y ∷ ys) up up' to back = by (R x y) refl (sorted_unique xs ys (sorted_rest x xs up) (sorted_rest y ys up'))
    where
      by : (o : Ordering) → R x y ≡ o → (((z : A) → Contains xs z → Contains ys z) → ((z : A) → Contains ys z → Contains xs z) → xs ≡ ys)
          → x ∷ xs ≡ y ∷ ys
      by Less e rest = absurd (no_earlier x y ys up' (to x (Contains-first x xs)) e)
      by Greater e rest = absurd (no_earlier y x xs up (back y (Contains-first y ys)) (l.total.antisymm y x ∙ ap ordering_reverse e))
      by Equal e rest =
          let same = l.equal x y e in
          ap₂ (λ z zs. z ∷ zs) same (rest (later_too x y xs ys up to same) (later_too y x ys xs up' back (sym same)))
